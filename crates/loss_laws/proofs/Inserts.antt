-- The swaps that an insert loses.
use Rattle.std.specs.Prelude.{◌≡◌, ℕ, zero, suc, ◌+◌, ◌-◌, ◌*◌, ◌%◌, ◌^◌, ◌≤◌, ◌==◌, Bool, true, false, cond, nat_le, List, [], slice_set, Option, Some, None, refl}
use Rattle.std.proofs.Common.{arith}
use Rattle.std.proofs.lemmas.Bool.Decides.{nat_tests}
use Rattle.slot_word.specs.declared.slots.Slot.{Slot}
use Rattle.slot_word.specs.Slots.{slot_of}
use Rattle.kv_block.specs.Reading.{block_key}
use Rattle.node_words.specs.declared.geometry.Geometry.{Geometry}
use Rattle.node_words.specs.Addresses.{header_at, bucket_header_at}
use Rattle.verb_log.specs.declared.entry.Verb.TheVariants.{Read, Swap}
use Rattle.verbs.specs.Programs.{Prog, ask, do_verb, bind}
use Rattle.pass_text.specs.declared.job.PassMode.TheVariants.{Look, Sweep}
use Rattle.pass_text.specs.declared.passed.Passed.{Passed}
use Rattle.pass_text.specs.declared.passed.PassEnd.{PassEnd}
use Rattle.pass_text.specs.declared.passed.PassEnd.TheVariants.{Held, Clear, Gone, Spent}
use Rattle.pass_text.specs.Words.{address_of, head_in, is_filling}
use Rattle.pass_text.specs.Pass.{pass}
use Rattle.block_taking.specs.declared.taking.Area.{Area}
use Rattle.block_taking.specs.declared.taking.TakeEnd.{TakeEnd}
use Rattle.block_taking.specs.declared.taking.TakeOutcome.{TakeOutcome}
use Rattle.block_taking.specs.declared.taking.TakeOutcome.TheVariants.{Taken, NoBlock as NoBlockTaken, Spent as SpentTaking}
use Rattle.block_taking.specs.Text.{take_block}
use Rattle.op_insert.specs.declared.end.InsertEnd.{InsertEnd}
use Rattle.op_insert.specs.declared.end.InsertOutcome.{InsertOutcome}
use Rattle.op_insert.specs.declared.end.InsertOutcome.TheVariants.{Inserted, Exists, NeedRoom, Again, NoBlock}
use Rattle.op_insert.specs.Text.{Inserting, Part, Result, to_commit, exists_with, start_again, left_again, spent, no_block, need_room, part_end, look_of, sweep_of, slot_in, choice_of, pending_word, live_word, after_loss, withdraw, on_swept, after_sweep, place_block, on_taken, after_taking, take_and_place, on_parent_slot, on_parent_word, choose_filling, help_from, is_plain_at, help, choose_by_parent, choose_among, on_looked, after_look, insert_part, ended, ends_again, after_commit, on_part, table_of, insert_from, parts_of, insert}
use Rattle.log_facts.specs.SlotWords.{plain_of, splitting_of}
use Rattle.loss_laws.specs.Loses.{Loses}
use Rattle.loss_laws.proofs.Rules.{Grows, loses_more, after_verb, counted, pick, words, in_turn, since}
use Rattle.loss_laws.proofs.Passes.{PassLost, pass-loses}
use Rattle.loss_laws.proofs.Takings.{TakeLost, take-loses}

-- how many swaps may still be lost after a part
abbrev pub spare_part : Result → ℕ → ℕ
spare_part (to_commit own at) left = left
spare_part (exists_with h) left = left
spare_part start_again left = left
spare_part left_again left = left
spare_part spent left = 0
spare_part (no_block next words) left = left
spare_part (need_room p) left = left

abbrev pub PartLost : ℕ → ℕ → ℕ → Part → Type 0
PartLost least most n p = (least ≤ n + spare_part p.result p.left) × (p.left ≤ most)

module _ (i : Inserting) (least most : ℕ) where
  abbrev E : ℕ → Part → Type 0
  E n p = PartLost least most n p

  grows : Grows E
  grows n m p h e = let x = e.0 in (omega arith, e.1)

  loss-loses : (t : ℕ) (kept : Option ℕ) (area : Area) (left n : ℕ) → least ≤ n + left → left ≤ most → Loses E (suc n) (after_loss t kept area left)
  loss-loses t kept area left n h le = pick E (suc n) (nat_le left 1) _ _ (λ v. (last_one n left h v, omega arith)) (λ v. (omega arith, omega arith))
    where
      last_one : (n left : ℕ) → least ≤ n + left → nat_le left 1 ≡ true → least ≤ suc n + 0
      last_one n left h v = grind (arith, nat_tests)

  withdraw-loses : (own at n : ℕ) (next : Prog Part) → Loses E n next → Loses E n (withdraw i own at next)
  withdraw-loses own at n next h = after_verb E grows n None (Swap own (pending_word i at) 0) (λ found. next) (λ found. h)

  swept-loses : (own at : ℕ) (area : Area) (left n : ℕ) (p : Passed) (e : PassEnd) → PassLost least (Sweep own left) n (record p { end = e }) → left ≤ most → Loses E n (on_swept i own at area left p e)
  swept-loses own at area left n p (Held h) x le = withdraw-loses own at n (part_end (exists_with h) p.table None area (left - p.lost)) (x.0, omega arith)
  swept-loses own at area left n p Clear x le = (x.0, omega arith)
  swept-loses own at area left n p Gone x le = withdraw-loses own at n (part_end left_again p.table None area (left - p.lost)) (x.0, omega arith)
  swept-loses own at area left n p Spent x le = withdraw-loses own at n (part_end spent p.table None area 0) (x.0, omega arith)

  place-loses : (t own at : ℕ) (area : Area) (left n : ℕ) → least ≤ n + left → left ≤ most → Loses E n (place_block i t own at area left)
  place-loses t own at area left n h le =
      counted E n own 0 (pending_word i at) _ (λ found. after_loss t (Some at) area left)
      (in_turn (λ m p. PassLost least (Sweep own left) m p) E n (pass (sweep_of i own left) (Some t)) (after_sweep i own at area left) (pass-loses (sweep_of i own left) least n h (Some t)) (λ m p x. swept-loses own at area left m p p.end x le))
      (λ found. loss-loses t (Some at) area left n h le)

  taken-loses : (t own n : ℕ) (e : TakeEnd) (o : TakeOutcome) → TakeLost least most n (record { outcome = o; area = e.area; left = e.left }) → Loses E n (on_taken i t own e o)
  taken-loses t own n e (Taken at) x = place-loses t own at e.area e.left n x.0 x.1
  taken-loses t own n e (NoBlockTaken next words) x = (x.0, x.1)
  taken-loses t own n e SpentTaking x = (x.0, omega arith)

  takes-loses : (t own : ℕ) (kept : Option ℕ) (area : Area) (left n : ℕ) → least ≤ n + left → left ≤ most → Loses E n (take_and_place i t own kept area left)
  takes-loses t own (Some at) area left n h le = place-loses t own at area left n h le
  takes-loses t own None area left n h le = in_turn (λ m e. TakeLost least most m e) E n (take_block i.taking area left) (after_taking i t own) (take-loses i.taking least most area left n h le) (λ m e x. taken-loses t own m e e.outcome x)

  parent-loses : (e word n : ℕ) (not_free good : Prog Part) → Loses E n not_free → Loses E n good → Loses E n (on_parent_word i e not_free good word)
  parent-loses e word n not_free good a b = pick E n (word == 0) good (on_parent_slot i e not_free good (slot_of word)) (λ v. b) (λ v. of (slot_of word))
    where
      of : (o : Option Slot) → Loses E n (on_parent_slot i e not_free good o)
      of None = b
      of (Some x) = pick E n (nat_le x.len 137) _ good
          (λ v. words E n x.at x.len x.at [] _ (λ ws other. pick E n (other % 2 ^ e == i.job.hash % 2 ^ e) not_free good (λ w. a) (λ w. b)))
          (λ v. b)

  filling-loses : (p : Passed) (u m : ℕ) (free : List Bool) (o kept : Option ℕ) (area : Area) (left n : ℕ) → least ≤ n + left → left ≤ most → Loses E n (choose_filling i p u m free o kept area left)
  filling-loses p u zero free o kept area left n h le = (h, le)
  filling-loses p u (suc m) free None kept area left n h le = (h, le)
  filling-loses p u (suc m) free (Some x) kept area left n h le = λ word.
      parent-loses p.head.depth word n _ _ (filling-loses p u m (slice_set free x false) (choice_of i (slice_set free x false)) kept area left n h le) (takes-loses p.table (slot_in i p.table x) kept area left n h le)

  helps-loses : (u d m b n : ℕ) (next : Prog Part) → Loses E n next → Loses E n (help_from u d next m b)
  helps-loses u d zero b n next h = after_verb E grows n None (Swap (header_at u) (plain_of d) (splitting_of d)) (λ found. next) (λ found. h)
  helps-loses u d (suc m) b n next h = after_verb E grows n None (Swap (bucket_header_at u b) (plain_of d) (splitting_of d)) (λ found. help_from u d next m (b + 1)) (λ found. helps-loses u d m (b + 1) n next h)

  help-loses : (g : Geometry) (u d n : ℕ) (next : Prog Part) → Loses E n next → Loses E n (help g u d next)
  help-loses g u d n next h = λ word. pick E n (is_plain_at d (head_in word)) _ next (λ v. helps-loses u d (2 * g.groups) 0 n next h) (λ v. h)

  by_parent-loses : (p : Passed) (x : ℕ) (o kept : Option ℕ) (area : Area) (left n : ℕ) → least ≤ n + left → left ≤ most → Loses E n (choose_by_parent i p x o kept area left)
  by_parent-loses p x None kept area left n h le = takes-loses p.table (slot_in i p.table x) kept area left n h le
  by_parent-loses p x (Some u) kept area left n h le = help-loses i.job.geometry (address_of u) (p.head.depth - 1) n _ (filling-loses p (address_of u) 28 p.free (choice_of i p.free) kept area left n h le)

  among-loses : (p : Passed) (o kept : Option ℕ) (area : Area) (left n : ℕ) → least ≤ n + left → left ≤ most → Loses E n (choose_among i p o kept area left)
  among-loses p None kept area left n h le = (h, le)
  among-loses p (Some x) kept area left n h le = pick E n (is_filling p.head.state) _ _ (λ v. by_parent-loses p x p.parent kept area left n h le) (λ v. takes-loses p.table (slot_in i p.table x) kept area left n h le)

  looked-loses : (kept : Option ℕ) (area : Area) (left n : ℕ) (p : Passed) (e : PassEnd) → PassLost 0 Look n (record p { end = e }) → least ≤ n + left → left ≤ most → Loses E n (on_looked i kept area left p e)
  looked-loses kept area left n p (Held x) l h le = (h, le)
  looked-loses kept area left n p Clear l h le = among-loses p (choice_of i p.free) kept area left n h le
  looked-loses kept area left n p Gone l h le = absurd l.1
  looked-loses kept area left n p Spent l h le = absurd l.1

  pub part-loses : (start kept : Option ℕ) (area : Area) (left n : ℕ) → least ≤ n + left → left ≤ most → Loses E n (insert_part i start kept area left)
  part-loses start kept area left n h le =
      in_turn (λ m p. PassLost 0 Look m p × (n ≤ m)) E n (pass (look_of i) start) (after_look i kept area left) (since (λ m p. PassLost 0 Look m p) (pass (look_of i) start) n n (same n) (pass-loses (look_of i) 0 n (omega arith) start)) (λ m p x. looked-loses kept area left m p p.end x.0 (let y = x.1 in omega arith) le)
    where
      same : (x : ℕ) → x ≤ x
      same x = omega arith

-- an insert that ends as Again or needs room has lost the swaps that it tells
abbrev pub InsertLost : ℕ → ℕ → ℕ → ℕ → InsertOutcome → Type 0
InsertLost least tries n lost (Inserted at) = Unit {0}
InsertLost least tries n lost (Exists h) = Unit {0}
InsertLost least tries n lost (NeedRoom p kept) = least ≤ n + (tries - lost)
InsertLost least tries n lost Again = least ≤ n + (tries - lost)
InsertLost least tries n lost (NoBlock next words) = Unit {0}

module _ (i : Inserting) (least : ℕ) where
  abbrev I : ℕ → InsertEnd → Type 0
  I n e = InsertLost least i.tries n e.lost e.outcome

  abbrev Follows : (Option ℕ → Area → ℕ → Prog InsertEnd) → Type 0
  Follows next = (kept : Option ℕ) (area : Area) (left n : ℕ) → least ≤ n + left → left ≤ i.tries → Loses I n (next kept area left)

  rest_of : (n left : ℕ) → least ≤ n + left → left ≤ i.tries → least ≤ n + (i.tries - (i.tries - left))
  rest_of n left h le = omega arith

  none_left : (n : ℕ) → least ≤ n + 0 → least ≤ n + (i.tries - i.tries)
  none_left n h = omega arith

  last_one : (n left : ℕ) → least ≤ n + left → nat_le left 1 ≡ true → least ≤ suc n + 0
  last_one n left h v = grind (arith, nat_tests)

  end-loses : (p : Part) (next : Option ℕ → Area → ℕ → Prog InsertEnd) → Follows next → (n : ℕ) (r : Result) → PartLost least i.tries n (record p { result = r }) → Loses I n (on_part i p next r)
  end-loses p next goes n (to_commit own at) x =
      counted I n own (pending_word i at) (live_word i at) (ended i (Inserted at) p) (λ found. cond (nat_le p.left 1) (ends_again i p) (next None p.area (p.left - 1))) tt
      (λ found. pick I (suc n) (nat_le p.left 1) (ends_again i p) _ (λ v. none_left (suc n) (last_one n p.left x.0 v)) (λ v. goes None p.area (p.left - 1) (suc n) (let y = x.0 in omega arith) (let y = x.1 in omega arith)))
  end-loses p next goes n (exists_with h) x = tt
  end-loses p next goes n start_again x = goes p.kept p.area p.left n x.0 x.1
  end-loses p next goes n left_again x = goes p.kept p.area p.left n x.0 x.1
  end-loses p next goes n spent x = none_left n x.0
  end-loses p next goes n (no_block next2 words) x = tt
  end-loses p next goes n (need_room q) x = rest_of n p.left x.0 x.1

  from-loses : (m : ℕ) (start : Option ℕ) → Follows (insert_from i m start)
  unfolding insert_from
  from-loses zero start kept area left n h le = rest_of n left h le
  from-loses (suc m) start kept area left n h le =
      in_turn (λ k p. PartLost least i.tries k p) I n (insert_part i start kept area left) (λ part. on_part i part (insert_from i m (Some part.table)) part.result)
      (part-loses i least i.tries start kept area left n h le) (λ k p x. end-loses p (insert_from i m (Some p.table)) (from-loses m (Some p.table)) k p.result x)

  pub insert-loses : (start kept : Option ℕ) (area : Area) (n : ℕ) → least ≤ n + i.tries → Loses I n (insert i start kept area)
  insert-loses start kept area n h = from-loses (parts_of i) start kept area i.tries n h (same i.tries)
    where
      same : (x : ℕ) → x ≤ x
      same x = omega arith
