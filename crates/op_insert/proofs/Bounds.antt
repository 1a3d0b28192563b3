-- A part of an insert ends within so many verbs and hashes, whatever is answered, and its swaps that may be lost never grow; and
-- so does the insert.
use Rattle.std.specs.Prelude.{◌≡◌, ℕ, zero, suc, ◌+◌, ◌-◌, ◌*◌, ◌%◌, ◌^◌, ◌≤◌, Bool, true, false, cond, nat_le, ◌==◌, List, [], ◌∷◌, ◌++◌, length, slice_set, Option, Some, None, refl}
use Rattle.std.proofs.Common.{arith, subst, sym}
use Rattle.std.proofs.Math.Nat.{suc-mul}
use Rattle.std.proofs.lemmas.Bool.Decides.{nat_tests}
use Rattle.slot_word.specs.declared.slots.Slot.{Slot}
use Rattle.slot_word.specs.Slots.{slot_of}
use Rattle.kv_block.specs.Reading.{block_key}
use Rattle.kv_block.specs.Packing.{Pair, IsPair, packed}
use Rattle.kv_block.proofs.Packed.{packed_most}
use Rattle.verbs.specs.Programs.{Prog, ret, ask, ask_hash, bind, Within, Outcomes}
use Rattle.verbs.proofs.Progs.{Within-more, Within-bind, Within-bind_by, Outcomes-bind}
use Rattle.node_words.specs.declared.geometry.Geometry.{Geometry}
use Rattle.pass_text.specs.declared.passed.Passed.{Passed}
use Rattle.pass_text.specs.declared.passed.PassEnd.{PassEnd}
use Rattle.pass_text.specs.declared.passed.PassEnd.TheVariants.{Held, Clear, Gone, Spent}
use Rattle.pass_text.specs.Words.{address_of, head_in, is_filling}
use Rattle.pass_text.specs.Pass.{read_words, pass}
use Rattle.pass_text.specs.Bound.{most_verbs, pass_verbs}
use Rattle.pass_text.proofs.Bounds.{pass-within}
use Rattle.block_taking.specs.declared.taking.Area.{Area}
use Rattle.block_taking.specs.declared.taking.TakeOutcome.{TakeOutcome}
use Rattle.block_taking.specs.declared.taking.TakeOutcome.TheVariants.{Taken, NoBlock as NoBlockTaken, Spent as SpentTaking}
use Rattle.block_taking.specs.declared.taking.TakeEnd.{TakeEnd}
use Rattle.block_taking.specs.Text.{take_block, need}
use Rattle.block_taking.specs.Bound.{taking_verbs}
use Rattle.block_taking.proofs.Bounds.{taking-within, taking-left}
use Rattle.op_insert.specs.declared.end.InsertOutcome.TheVariants.{Inserted}
use Rattle.op_insert.specs.declared.end.InsertEnd.{InsertEnd}
use Rattle.op_insert.specs.Text.{Inserting, Part, Result, to_commit, exists_with, start_again, left_again, spent, no_block, need_room, pending_word, ended, ends_again, on_part, insert_from, parts_of, insert, look_of, sweep_of, choice_of, slot_in, after_loss, on_swept, after_sweep, place_block, on_taken, after_taking, take_and_place, on_parent_slot, on_parent_word, choose_filling, help_from, is_plain_at, help, choose_by_parent, choose_among, on_looked, after_look, insert_part}
use Rattle.op_insert.specs.Bound.{part_verbs, insert_verbs}

-- within so many acts, and then no more swaps may be lost than these
abbrev pub Bounded : ℕ → ℕ → Prog Part → Type 0
Bounded n left p = Within n p × Outcomes (λ (part : Part). part.left ≤ left) p

either : (n left : ℕ) (v : Bool) (p q : Prog Part) → (v ≡ true → Bounded n left p) → (v ≡ false → Bounded n left q) → Bounded n left (cond v p q)
either n left true p q h k = h refl
either n left false p q h k = k refl

more : (n most left : ℕ) (p : Prog Part) → n ≤ most → Bounded n left p → Bounded most left p
more n most left p le h = (Within-more n most p le h.0, h.1)

words_bounded : (block n at k left : ℕ) (ws : List ℕ) (go_on : List ℕ → Prog Part) → ((v : List ℕ) → Bounded k left (go_on v)) → Bounded (n + k) left (read_words block n at ws go_on)
words_bounded block zero at k left ws go_on h = more k (0 + k) left (go_on ws) (omega arith) (h ws)
words_bounded block (suc n) at k left ws go_on h =
    more (suc (n + k)) (suc n + k) left (read_words block (suc n) at ws go_on) (omega arith)
    ((λ w. (words_bounded block n (at + 1) k left (ws ++ w ∷ []) go_on h).0), (λ w. (words_bounded block n (at + 1) k left (ws ++ w ∷ []) go_on h).1))

from_bounded : (u d n m k left : ℕ) (next : Prog Part) → Bounded k left next → Bounded (suc (n + k)) left (help_from u d next n m)
from_bounded u d zero m k left next h = ((λ found. Within-more k (0 + k) next (omega arith) h.0), (λ found. h.1))
from_bounded u d (suc n) m k left next h =
    more (suc (suc (n + k))) (suc (suc n + k)) left (help_from u d next (suc n) m) (omega arith)
    ((λ found. (from_bounded u d n (m + 1) k left next h).0), (λ found. (from_bounded u d n (m + 1) k left next h).1))

help_bounded : (g : Geometry) (u d k left : ℕ) (next : Prog Part) → Bounded k left next → Bounded (2 + 2 * g.groups + k) left (help g u d next)
help_bounded g u d k left next h =
    more (suc (suc (2 * g.groups + k))) (2 + 2 * g.groups + k) left (help g u d next) (omega arith) ((λ word. (by word).0), (λ word. (by word).1))
  where
    by : (word : ℕ) → Bounded (suc (2 * g.groups + k)) left (cond (is_plain_at d (head_in word)) (help_from u d next (2 * g.groups) 0) next)
    by word = either (suc (2 * g.groups + k)) left (is_plain_at d (head_in word)) (help_from u d next (2 * g.groups) 0) next (λ v. from_bounded u d (2 * g.groups) 0 k left next h) (λ v. more k (suc (2 * g.groups + k)) left next (omega arith) h)

module _ (i : Inserting) (few : need i.taking ≤ 137) where
  abbrev most_of : ℕ
  most_of = most_verbs i.job.geometry.max_depth

  swept_bounded : (own at : ℕ) (area : Area) (left : ℕ) (p : Passed) (e : PassEnd) → Bounded 1 left (on_swept i own at area left p e)
  swept_bounded own at area left p (Held h) = ((λ found. tt), (λ found. omega arith))
  swept_bounded own at area left p Clear = (tt, omega arith)
  swept_bounded own at area left p Gone = ((λ found. tt), (λ found. omega arith))
  swept_bounded own at area left p Spent = ((λ found. tt), (λ found. omega arith))

  loss_bounded : (n t : ℕ) (kept : Option ℕ) (area : Area) (left : ℕ) → Bounded n left (after_loss t kept area left)
  loss_bounded n t kept area left = either n left (nat_le left 1) _ _ (λ v. (tt, omega arith)) (λ v. (tt, omega arith))

  -- no one outcome of a pass is asked
  any : (p : Prog Passed) → Outcomes (λ (r : Passed). Unit {0}) p
  any (ret r) = tt
  any (ask act k) = λ answer. any (k answer)

  abbrev place_most : ℕ → ℕ
  place_most left = 2 + most_of + 138 * left

  place_bounded : (t own at : ℕ) (area : Area) (left : ℕ) → Bounded (place_most left) left (place_block i t own at area left)
  place_bounded t own at area left =
      more (suc (pass_verbs (sweep_of i own left) + 1)) (place_most left) left (place_block i t own at area left) (omega arith) ((λ found. (by found).0), (λ found. (by found).1))
    where
      swept : Bounded (pass_verbs (sweep_of i own left) + 1) left (bind (pass (sweep_of i own left) (Some t)) (after_sweep i own at area left))
      swept = (
        Within-bind (pass_verbs (sweep_of i own left)) 1 (pass (sweep_of i own left) (Some t)) (after_sweep i own at area left) (pass-within (sweep_of i own left) (Some t) i.job.geometry.deep) (λ p. (swept_bounded own at area left p p.end).0),
        Outcomes-bind (λ (r : Passed). Unit {0}) (λ (part : Part). part.left ≤ left) (pass (sweep_of i own left) (Some t)) (after_sweep i own at area left) (any (pass (sweep_of i own left) (Some t))) (λ p h. (swept_bounded own at area left p p.end).1),
      )

      by : (found : ℕ) → Bounded (pass_verbs (sweep_of i own left) + 1) left (cond (found == 0) (bind (pass (sweep_of i own left) (Some t)) (after_sweep i own at area left)) (after_loss t (Some at) area left))
      by found = either (pass_verbs (sweep_of i own left) + 1) left (found == 0) _ (after_loss t (Some at) area left) (λ v. swept) (λ v. loss_bounded (pass_verbs (sweep_of i own left) + 1) t (Some at) area left)

  fewer : (n left most : ℕ) (p : Prog Part) → left ≤ most → Bounded n left p → Bounded n most p
  fewer n left most p le h = (h.0, out p h.1)
    where
      out : (p : Prog Part) → Outcomes (λ (part : Part). part.left ≤ left) p → Outcomes (λ (part : Part). part.left ≤ most) p
      out (ret part) h = omega arith
      out (ask act k) h = λ answer. out (k answer) (h answer)

  taken_bounded : (t own left : ℕ) (e : TakeEnd) (o : TakeOutcome) → e.left ≤ left → Bounded (place_most left) left (on_taken i t own e o)
  taken_bounded t own left e (Taken at) le = more (place_most e.left) (place_most left) left (place_block i t own at e.area e.left) (omega arith) (fewer (place_most e.left) e.left left (place_block i t own at e.area e.left) le (place_bounded t own at e.area e.left))
  taken_bounded t own left e (NoBlockTaken next words) le = (tt, le)
  taken_bounded t own left e SpentTaking le = (tt, omega arith)

  abbrev take_most : ℕ → ℕ
  take_most left = 145 + left + place_most left

  take_bounded : (t own : ℕ) (kept : Option ℕ) (area : Area) (left : ℕ) → Bounded (take_most left) left (take_and_place i t own kept area left)
  take_bounded t own (Some at) area left = more (place_most left) (take_most left) left (place_block i t own at area left) (omega arith) (place_bounded t own at area left)
  take_bounded t own None area left =
      let nodes = i.taking.geometry.few in
      more (taking_verbs i.taking left + place_most left) (take_most left) left (bind (take_block i.taking area left) (after_taking i t own)) (omega arith) (
        Within-bind_by (λ (e : TakeEnd). e.left ≤ left) (taking_verbs i.taking left) (place_most left) (take_block i.taking area left) (after_taking i t own) (taking-within i.taking area left) (taking-left i.taking area left) (λ e le. (taken_bounded t own left e e.outcome le).0),
        Outcomes-bind (λ (e : TakeEnd). e.left ≤ left) (λ (part : Part). part.left ≤ left) (take_block i.taking area left) (after_taking i t own) (taking-left i.taking area left) (λ e le. (taken_bounded t own left e e.outcome le).1),
      )

  parent_bounded : (n e left word : ℕ) (not_free good : Prog Part) → Bounded n left not_free → Bounded n left good → Bounded (138 + n) left (on_parent_word i e not_free good word)
  parent_bounded n e left word not_free good a b = either (138 + n) left (word == 0) good (on_parent_slot i e not_free good (slot_of word)) (λ v. more n (138 + n) left good (omega arith) b) (λ v. of (slot_of word))
    where
      asked : (ws : List ℕ) → Bounded (suc n) left (ask (ask_hash (block_key ws)) (λ other. cond (other % 2 ^ e == i.job.hash % 2 ^ e) not_free good))
      asked ws = ((λ other. (either n left (other % 2 ^ e == i.job.hash % 2 ^ e) not_free good (λ v. a) (λ v. b)).0), (λ other. (either n left (other % 2 ^ e == i.job.hash % 2 ^ e) not_free good (λ v. a) (λ v. b)).1))

      short : (k : ℕ) → nat_le k 137 ≡ true → k + suc n ≤ 138 + n
      short k v = grind (arith, nat_tests)

      of : (o : Option Slot) → Bounded (138 + n) left (on_parent_slot i e not_free good o)
      of None = more n (138 + n) left good (omega arith) b
      of (Some x) = either (138 + n) left (nat_le x.len 137) _ good
          (λ v. more (x.len + suc n) (138 + n) left (read_words x.at x.len x.at [] (λ ws. ask (ask_hash (block_key ws)) (λ other. cond (other % 2 ^ e == i.job.hash % 2 ^ e) not_free good))) (short x.len v) (words_bounded x.at x.len x.at (suc n) left [] _ asked))
          (λ v. more n (138 + n) left good (omega arith) b)

  filling_bounded : (p : Passed) (u n : ℕ) (free : List Bool) (o kept : Option ℕ) (area : Area) (left : ℕ) → Bounded (n * 139 + take_most left) left (choose_filling i p u n free o kept area left)
  filling_bounded p u zero free o kept area left = (tt, same left)
    where
      same : (x : ℕ) → x ≤ x
      same x = omega arith
  filling_bounded p u (suc n) free None kept area left = (tt, same left)
    where
      same : (x : ℕ) → x ≤ x
      same x = omega arith
  filling_bounded p u (suc n) free (Some x) kept area left =
      let rest = filling_bounded p u n (slice_set free x false) (choice_of i (slice_set free x false)) kept area left in
      more (suc (138 + (n * 139 + take_most left))) (suc n * 139 + take_most left) left (choose_filling i p u (suc n) free (Some x) kept area left) (up n (take_most left)) ((λ word. (by rest word).0), (λ word. (by rest word).1))
    where
      up : (n v : ℕ) → suc (138 + (n * 139 + v)) ≤ suc n * 139 + v
      up n v = omega arith

      by : Bounded (n * 139 + take_most left) left (choose_filling i p u n (slice_set free x false) (choice_of i (slice_set free x false)) kept area left) → (word : ℕ)
          → Bounded (138 + (n * 139 + take_most left)) left (on_parent_word i p.head.depth (choose_filling i p u n (slice_set free x false) (choice_of i (slice_set free x false)) kept area left) (take_and_place i p.table (slot_in i p.table x) kept area left) word)
      by rest word = parent_bounded (n * 139 + take_most left) p.head.depth left word _ _ rest
          (more (take_most left) (n * 139 + take_most left) left (take_and_place i p.table (slot_in i p.table x) kept area left) (omega arith) (take_bounded p.table (slot_in i p.table x) kept area left))

  abbrev choose_most : ℕ → ℕ
  choose_most left = 2 + 2 * i.job.geometry.groups + (28 * 139 + take_most left)

  taken_at_once : (p : Passed) (x : ℕ) (kept : Option ℕ) (area : Area) (left : ℕ) → Bounded (choose_most left) left (take_and_place i p.table (slot_in i p.table x) kept area left)
  taken_at_once p x kept area left = more (take_most left) (choose_most left) left (take_and_place i p.table (slot_in i p.table x) kept area left) (omega arith) (take_bounded p.table (slot_in i p.table x) kept area left)

  by_parent_bounded : (p : Passed) (x : ℕ) (o kept : Option ℕ) (area : Area) (left : ℕ) → Bounded (choose_most left) left (choose_by_parent i p x o kept area left)
  by_parent_bounded p x None kept area left = taken_at_once p x kept area left
  by_parent_bounded p x (Some u) kept area left = help_bounded i.job.geometry (address_of u) (p.head.depth - 1) (28 * 139 + take_most left) left _ (filling_bounded p (address_of u) 28 p.free (choice_of i p.free) kept area left)

  among_bounded : (p : Passed) (o kept : Option ℕ) (area : Area) (left : ℕ) → Bounded (choose_most left) left (choose_among i p o kept area left)
  among_bounded p None kept area left = (tt, same left)
    where
      same : (x : ℕ) → x ≤ x
      same x = omega arith
  among_bounded p (Some x) kept area left = either (choose_most left) left (is_filling p.head.state) (choose_by_parent i p x p.parent kept area left) (take_and_place i p.table (slot_in i p.table x) kept area left) (λ v. by_parent_bounded p x p.parent kept area left) (λ v. taken_at_once p x kept area left)

  looked_bounded : (kept : Option ℕ) (area : Area) (left : ℕ) (p : Passed) (e : PassEnd) → Bounded (choose_most left) left (on_looked i kept area left p e)
  looked_bounded kept area left p (Held h) = (tt, same left)
    where
      same : (x : ℕ) → x ≤ x
      same x = omega arith
  looked_bounded kept area left p Gone = (tt, omega arith)
  looked_bounded kept area left p Spent = (tt, omega arith)
  looked_bounded kept area left p Clear = among_bounded p (choice_of i p.free) kept area left

  pub part_bounded : (start kept : Option ℕ) (area : Area) (left : ℕ) → left ≤ i.tries → Within (part_verbs i - 1) (insert_part i start kept area left) × Outcomes (λ (part : Part). part.left ≤ left) (insert_part i start kept area left)
  part_bounded start kept area left le =
      more (pass_verbs (look_of i) + choose_most left) (part_verbs i - 1) left (insert_part i start kept area left) (omega arith) (
        Within-bind (pass_verbs (look_of i)) (choose_most left) (pass (look_of i) start) (after_look i kept area left) (pass-within (look_of i) start i.job.geometry.deep) (λ p. (looked_bounded kept area left p p.end).0),
        Outcomes-bind (λ (r : Passed). Unit {0}) (λ (part : Part). part.left ≤ left) (pass (look_of i) start) (after_look i kept area left) (any (pass (look_of i) start)) (λ p h. (looked_bounded kept area left p p.end).1),
      )

  -- what follows a part ends within n verbs
  abbrev GoesWithin : ℕ → (Option ℕ → Area → ℕ → Prog InsertEnd) → Type 0
  GoesWithin n again = (kept : Option ℕ) (area : Area) (left : ℕ) → left ≤ i.tries → Within n (again kept area left)

  end-within : (n : ℕ) (part : Part) (again : Option ℕ → Area → ℕ → Prog InsertEnd) → part.left ≤ i.tries → GoesWithin n again → (r : Result) → Within (suc n) (on_part i part again r)
  end-within n part again le f (to_commit own at) = λ found. by (found == pending_word i at) (nat_le part.left 1)
    where
      by : (v w : Bool) → Within n (cond v (ended i (Inserted at) part) (cond w (ends_again i part) (again None part.area (part.left - 1))))
      by true w = tt
      by false true = tt
      by false false = f None part.area (part.left - 1) (omega arith)
  end-within n part again le f (exists_with h) = tt
  end-within n part again le f start_again = Within-more n (suc n) (again part.kept part.area part.left) (omega arith) (f part.kept part.area part.left le)
  end-within n part again le f left_again = Within-more n (suc n) (again part.kept part.area part.left) (omega arith) (f part.kept part.area part.left le)
  end-within n part again le f spent = tt
  end-within n part again le f (no_block next words) = tt
  end-within n part again le f (need_room p) = tt

  from-within : (n : ℕ) (start : Option ℕ) → GoesWithin (n * part_verbs i) (insert_from i n start)
  unfolding insert_from
  from-within zero start kept area left le = tt
  from-within (suc n) start kept area left le =
      subst (λ v. Within v (insert_from i (suc n) start kept area left)) (sum n (part_verbs i) (omega arith))
      (Within-bind_by (λ (part : Part). part.left ≤ left) (part_verbs i - 1) (suc (n * part_verbs i)) (insert_part i start kept area left) (λ part. on_part i part (insert_from i n (Some part.table)) part.result)
      (part_bounded start kept area left le).0 (part_bounded start kept area left le).1
      (λ part few2. end-within (n * part_verbs i) part (insert_from i n (Some part.table)) (within part few2) (from-within n (Some part.table)) part.result))
    where
      sum : (n v : ℕ) → 1 ≤ v → v - 1 + suc (n * v) ≡ suc n * v
      sum n v h = let x = suc-mul n v in omega arith

      within : (part : Part) → part.left ≤ left → part.left ≤ i.tries
      within part few2 = omega arith

  pub insert-within : (start kept : Option ℕ) (area : Area) → Within (insert_verbs i) (insert i start kept area)
  insert-within start kept area = from-within (parts_of i) start kept area i.tries (same i.tries)
    where
      same : (x : ℕ) → x ≤ x
      same x = omega arith

-- a program that is the insert of a pair ends within its bound
pub within_as_insert : (i : Inserting) (pair : Pair) → IsPair pair → i.taking.block ≡ packed pair.key pair.value → (start kept : Option ℕ) (area : Area) (program : Prog InsertEnd) → program ≡ insert i start kept area → Within (insert_verbs i) program
within_as_insert i pair ip b start kept area program e =
    subst (Within (insert_verbs i)) (sym e) (insert-within i (subst (λ (ws : List ℕ). length ws ≤ 137) (sym b) (packed_most pair ip)) start kept area)
