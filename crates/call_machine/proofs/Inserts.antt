-- An insert that needs room has lost fewer swaps than it might.
use Rattle.std.specs.Prelude.{◌≡◌, ℕ, zero, suc, ◌+◌, ◌-◌, ◌*◌, ◌%◌, ◌^◌, ◌≤◌, Bool, true, false, cond, nat_le, ◌==◌, List, [], slice_set, replicate, Option, Some, None}
use Rattle.std.proofs.Common.{arith, subst, sym}
use Rattle.std.proofs.lemmas.Bool.Decides.{nat_tests}
use Rattle.slot_word.specs.declared.slots.Slot.{Slot}
use Rattle.slot_word.specs.Slots.{slot_of}
use Rattle.node_words.specs.declared.geometry.Geometry.{Geometry}
use Rattle.verbs.specs.Programs.{Prog, Outcomes}
use Rattle.verbs.proofs.Progs.{Outcomes-bind}
use Rattle.pass_text.specs.declared.passed.Passed.{Passed}
use Rattle.pass_text.specs.declared.passed.PassEnd.{PassEnd}
use Rattle.pass_text.specs.declared.passed.PassEnd.TheVariants.{Held, Clear, Gone, Spent}
use Rattle.pass_text.specs.Words.{address_of, head_in, is_filling}
use Rattle.pass_text.specs.Pass.{pass}
use Rattle.block_taking.specs.declared.taking.Area.{Area}
use Rattle.block_taking.specs.declared.taking.Taking.{Taking}
use Rattle.block_taking.specs.declared.taking.TakeOutcome.{TakeOutcome}
use Rattle.block_taking.specs.declared.taking.TakeOutcome.TheVariants.{Taken, NoBlock as NoBlockTaken, Spent as SpentTaking}
use Rattle.block_taking.specs.declared.taking.TakeEnd.{TakeEnd}
use Rattle.block_taking.specs.Text.{take_block, take_at, take_from, write_words, write_block, need, end_of, first_node, next_node, behind}
use Rattle.op_insert.specs.declared.end.InsertOutcome.TheVariants.{Inserted}
use Rattle.op_insert.specs.declared.end.InsertEnd.{InsertEnd}
use Rattle.op_insert.specs.Text.{Inserting, Part, Result, to_commit, exists_with, start_again, left_again, spent, no_block, need_room, pending_word, ended, ends_again, on_part, insert_from, parts_of, insert, look_of, sweep_of, choice_of, slot_in, after_loss, on_swept, after_sweep, place_block, on_taken, after_taking, take_and_place, on_parent_slot, on_parent_word, choose_filling, help_from, is_plain_at, help, choose_by_parent, choose_among, on_looked, after_look, insert_part}
use Rattle.call_machine.specs.Spare.{InsertSpares}
use Rattle.call_machine.proofs.Ways.{either, words, any}
use Rattle.call_machine.proofs.Sweeps.{GoneBelow, pass-keep}

-- a block that is taken leaves one swap more that may be lost
abbrev TakesSo : ℕ → TakeOutcome → Type 0
TakesSo left (Taken at) = 1 ≤ left
TakesSo left (NoBlockTaken next words) = Unit {0}
TakesSo left SpentTaking = Unit {0}

abbrev TakeKeeps : Prog TakeEnd → Type 0
TakeKeeps p = Outcomes (λ (e : TakeEnd). TakesSo e.left e.outcome) p

take_either : (v : Bool) (x y : Prog TakeEnd) → TakeKeeps x → TakeKeeps y → TakeKeeps (cond v x y)
take_either v x y h k = either (λ (e : TakeEnd). TakesSo e.left e.outcome) v x y (λ u. h) (λ u. k)

writes-keep : (t : Taking) (n i at : ℕ) (area : Area) (left : ℕ) → 1 ≤ left → TakeKeeps (write_words t n i at area left)
writes-keep t zero i at area left le = le
writes-keep t (suc n) i at area left le = λ answer. writes-keep t n (i + 1) at area left le

at-keep : (t : Taking) (left k n : ℕ) (area : Area) (full : ℕ → ℕ → Prog TakeEnd) → ((next left2 : ℕ) → TakeKeeps (full next left2)) → TakeKeeps (take_at t left k n area full)
at-keep t zero k n area full h = tt
at-keep t (suc left) k n area full h =
    take_either (nat_le (n + need t) (end_of t k)) _ (full n (suc left))
    (take_either (nat_le (n + 65536) (end_of t k)) _ _
    (λ found. take_either (found == n) _ (take_at t left k found area full) (writes-keep t (need t) 0 n _ (suc left) (omega arith)) (at-keep t left k found area full h))
    (λ found. take_either (found == n) (write_block t n area (suc left)) (take_at t left k found area full) (writes-keep t (need t) 0 n area (suc left) (omega arith)) (at-keep t left k found area full h)))
    (h n (suc left))

from-keep : (t : Taking) (n k : ℕ) (nexts : List ℕ) (area : Area) (left : ℕ) → TakeKeeps (take_from t n k nexts area left)
from-keep t zero k nexts area left = tt
from-keep t (suc n) k nexts area left = λ found. at-keep t left k found area _ (λ next left2. from-keep t n (next_node t k) (slice_set nexts k next) area left2)

take-keep : (t : Taking) (area : Area) (left : ℕ) → 1 ≤ left → TakeKeeps (take_block t area left)
take-keep t area left le =
    take_either (nat_le (need t) area.left) (write_block t (address_of area.at) (behind (need t) area) left) (take_from t t.geometry.nodes (first_node t) (replicate 8 0) area left)
    (writes-keep t (need t) 0 (address_of area.at) (behind (need t) area) left le) (from-keep t t.geometry.nodes (first_node t) (replicate 8 0) area left)

-- a part ends so that one swap more may be lost where the insert starts again or needs room
abbrev Keeps : ℕ → Result → Type 0
Keeps left (to_commit own at) = Unit {0}
Keeps left (exists_with h) = Unit {0}
Keeps left start_again = 1 ≤ left
Keeps left left_again = 1 ≤ left
Keeps left spent = Unit {0}
Keeps left (no_block next words) = Unit {0}
Keeps left (need_room p) = 1 ≤ left

abbrev PartKeeps : Prog Part → Type 0
PartKeeps p = Outcomes (λ (part : Part). Keeps part.left part.result) p

part_either : (v : Bool) (x y : Prog Part) → (v ≡ true → PartKeeps x) → (v ≡ false → PartKeeps y) → PartKeeps (cond v x y)
part_either v x y h k = either (λ (part : Part). Keeps part.left part.result) v x y h k

one_less : (n : ℕ) → nat_le n 1 ≡ false → 1 ≤ n - 1
one_less n v = grind (arith, nat_tests)

helps-keep : (u d n m : ℕ) (next : Prog Part) → PartKeeps next → PartKeeps (help_from u d next n m)
helps-keep u d zero m next h = λ found. h
helps-keep u d (suc n) m next h = λ found. helps-keep u d n (m + 1) next h

help-keep : (g : Geometry) (u d : ℕ) (next : Prog Part) → PartKeeps next → PartKeeps (help g u d next)
help-keep g u d next h = λ word. part_either (is_plain_at d (head_in word)) _ next (λ v. helps-keep u d (2 * g.groups) 0 next h) (λ v. h)

module _ (i : Inserting) where
  swept-keep : (own at : ℕ) (area : Area) (left : ℕ) (p : Passed) (e : PassEnd) → GoneBelow left p.lost e → PartKeeps (on_swept i own at area left p e)
  swept-keep own at area left p (Held h) g = λ found. tt
  swept-keep own at area left p Clear g = tt
  swept-keep own at area left p Gone g = λ found. omega arith
  swept-keep own at area left p Spent g = λ found. tt

  loss-keep : (t : ℕ) (kept : Option ℕ) (area : Area) (left : ℕ) → PartKeeps (after_loss t kept area left)
  loss-keep t kept area left = part_either (nat_le left 1) _ _ (λ v. tt) (λ v. one_less left v)

  place-keep : (t own at : ℕ) (area : Area) (left : ℕ) → 1 ≤ left → PartKeeps (place_block i t own at area left)
  place-keep t own at area left le = λ found.
      part_either (found == 0) _ (after_loss t (Some at) area left)
      (λ v. Outcomes-bind (λ (p : Passed). GoneBelow left p.lost p.end) (λ (part : Part). Keeps part.left part.result) (pass (sweep_of i own left) (Some t)) (after_sweep i own at area left) (pass-keep (sweep_of i own left) (omega arith) (Some t)) (λ p g. swept-keep own at area left p p.end g))
      (λ v. loss-keep t (Some at) area left)

  taken-keep : (t own : ℕ) (e : TakeEnd) (o : TakeOutcome) → TakesSo e.left o → PartKeeps (on_taken i t own e o)
  taken-keep t own e (Taken at) le = place-keep t own at e.area e.left le
  taken-keep t own e (NoBlockTaken next words) le = tt
  taken-keep t own e SpentTaking le = tt

  takes-keep : (t own : ℕ) (kept : Option ℕ) (area : Area) (left : ℕ) → 1 ≤ left → PartKeeps (take_and_place i t own kept area left)
  takes-keep t own (Some at) area left le = place-keep t own at area left le
  takes-keep t own None area left le =
      Outcomes-bind (λ (e : TakeEnd). TakesSo e.left e.outcome) (λ (part : Part). Keeps part.left part.result) (take_block i.taking area left) (after_taking i t own) (take-keep i.taking area left le) (λ e h. taken-keep t own e e.outcome h)

  parent-keep : (e word : ℕ) (not_free good : Prog Part) → PartKeeps not_free → PartKeeps good → PartKeeps (on_parent_word i e not_free good word)
  parent-keep e word not_free good a b = part_either (word == 0) good (on_parent_slot i e not_free good (slot_of word)) (λ v. b) (λ v. of (slot_of word))
    where
      of : (o : Option Slot) → PartKeeps (on_parent_slot i e not_free good o)
      of None = b
      of (Some x) = part_either (nat_le x.len 137) _ good
          (λ v. words (λ (part : Part). Keeps part.left part.result) x.at x.len x.at [] _ (λ ws other. part_either (other % 2 ^ e == i.job.hash % 2 ^ e) not_free good (λ w. a) (λ w. b)))
          (λ v. b)

  filling-keep : (p : Passed) (u n : ℕ) (free : List Bool) (o kept : Option ℕ) (area : Area) (left : ℕ) → 1 ≤ left → PartKeeps (choose_filling i p u n free o kept area left)
  filling-keep p u zero free o kept area left le = le
  filling-keep p u (suc n) free None kept area left le = le
  filling-keep p u (suc n) free (Some x) kept area left le = λ word.
      parent-keep p.head.depth word _ _ (filling-keep p u n (slice_set free x false) (choice_of i (slice_set free x false)) kept area left le) (takes-keep p.table (slot_in i p.table x) kept area left le)

  by_parent-keep : (p : Passed) (x : ℕ) (o kept : Option ℕ) (area : Area) (left : ℕ) → 1 ≤ left → PartKeeps (choose_by_parent i p x o kept area left)
  by_parent-keep p x None kept area left le = takes-keep p.table (slot_in i p.table x) kept area left le
  by_parent-keep p x (Some u) kept area left le = help-keep i.job.geometry (address_of u) (p.head.depth - 1) _ (filling-keep p (address_of u) 28 p.free (choice_of i p.free) kept area left le)

  among-keep : (p : Passed) (o kept : Option ℕ) (area : Area) (left : ℕ) → 1 ≤ left → PartKeeps (choose_among i p o kept area left)
  among-keep p None kept area left le = le
  among-keep p (Some x) kept area left le = part_either (is_filling p.head.state) _ _ (λ v. by_parent-keep p x p.parent kept area left le) (λ v. takes-keep p.table (slot_in i p.table x) kept area left le)

  looked-keep : (kept : Option ℕ) (area : Area) (left : ℕ) (p : Passed) (e : PassEnd) → 1 ≤ left → PartKeeps (on_looked i kept area left p e)
  looked-keep kept area left p (Held h) le = tt
  looked-keep kept area left p Gone le = tt
  looked-keep kept area left p Spent le = tt
  looked-keep kept area left p Clear le = among-keep p (choice_of i p.free) kept area left le

  part-keep : (start kept : Option ℕ) (area : Area) (left : ℕ) → 1 ≤ left → PartKeeps (insert_part i start kept area left)
  part-keep start kept area left le =
      Outcomes-bind (λ (p : Passed). Unit {0}) (λ (part : Part). Keeps part.left part.result) (pass (look_of i) start) (after_look i kept area left) (any (pass (look_of i) start)) (λ p h. looked-keep kept area left p p.end le)

  -- what follows a part spares a swap too
  abbrev GoesSparing : (Option ℕ → Area → ℕ → Prog InsertEnd) → Type 0
  GoesSparing again = (kept : Option ℕ) (area : Area) (left : ℕ) → 1 ≤ left → Outcomes (InsertSpares i.tries) (again kept area left)

  end-spares : (part : Part) (again : Option ℕ → Area → ℕ → Prog InsertEnd) → 1 ≤ i.tries → GoesSparing again → (r : Result) → Keeps part.left r → Outcomes (InsertSpares i.tries) (on_part i part again r)
  end-spares part again some f (to_commit own at) le = λ found.
      either (InsertSpares i.tries) (found == pending_word i at) (ended i (Inserted at) part) _ (λ v. tt)
      (λ v. either (InsertSpares i.tries) (nat_le part.left 1) (ends_again i part) (again None part.area (part.left - 1)) (λ w. tt) (λ w. f None part.area (part.left - 1) (one_less part.left w)))
  end-spares part again some f (exists_with h) le = tt
  end-spares part again some f start_again le = f part.kept part.area part.left le
  end-spares part again some f left_again le = f part.kept part.area part.left le
  end-spares part again some f spent le = tt
  end-spares part again some f (no_block next words) le = tt
  end-spares part again some f (need_room p) le = omega arith

  from-spares : (n : ℕ) (start : Option ℕ) → 1 ≤ i.tries → GoesSparing (insert_from i n start)
  unfolding insert_from
  from-spares zero start some kept area left le = tt
  from-spares (suc n) start some kept area left le =
      Outcomes-bind (λ (part : Part). Keeps part.left part.result) (InsertSpares i.tries) (insert_part i start kept area left) (λ part. on_part i part (insert_from i n (Some part.table)) part.result)
      (part-keep start kept area left le) (λ part h. end-spares part (insert_from i n (Some part.table)) some (from-spares n (Some part.table) some) part.result h)

pub insert-spares : (i : Inserting) (start kept : Option ℕ) (area : Area) (tries : ℕ) (p : Prog InsertEnd) → p ≡ insert i start kept area → i.tries ≡ tries → 1 ≤ tries → Outcomes (InsertSpares tries) p
insert-spares i start kept area tries p e t some =
    let one : 1 ≤ i.tries = omega arith in
    subst (λ q. Outcomes (InsertSpares tries) q) (sym e) (subst (λ n. Outcomes (InsertSpares n) (insert i start kept area)) t (from-spares i (parts_of i) start one kept area i.tries one))

pub ruleset spares_on = (insert-spares)
