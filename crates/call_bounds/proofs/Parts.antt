-- A part of an insert, and an insert without its splits, ends within so many acts and what its lost swaps cost, whatever is answered.
use Rattle.std.specs.Prelude.{◌≡◌, ℕ, zero, suc, ◌+◌, ◌-◌, ◌*◌, ◌%◌, ◌^◌, ◌≤◌, ◌==◌, nat_le, Bool, true, false, cond, List, [], slice_set, Option, Some, None}
use Rattle.std.proofs.Common.{arith}
use Rattle.std.proofs.Math.Nat.{suc-mul}
use Rattle.std.proofs.lemmas.Bool.Decides.{nat_tests}
use Rattle.slot_word.specs.declared.slots.Slot.{Slot}
use Rattle.slot_word.specs.Slots.{slot_of}
use Rattle.verbs.specs.Programs.{Prog, bind, Costs}
use Rattle.verbs.proofs.Progs.{Costs-more}
use Rattle.node_words.specs.declared.geometry.Geometry.{Geometry}
use Rattle.pass_text.specs.declared.passed.Passed.{Passed}
use Rattle.pass_text.specs.declared.passed.PassEnd.{PassEnd}
use Rattle.pass_text.specs.declared.passed.PassEnd.TheVariants.{Held, Clear, Gone, Spent}
use Rattle.pass_text.specs.Words.{address_of, head_in, is_filling}
use Rattle.pass_text.specs.Pass.{pass}
use Rattle.block_taking.specs.declared.taking.Area.{Area}
use Rattle.block_taking.specs.declared.taking.TakeOutcome.{TakeOutcome}
use Rattle.block_taking.specs.declared.taking.TakeOutcome.TheVariants.{Taken, NoBlock as NoBlockTaken, Spent as SpentTaking}
use Rattle.block_taking.specs.declared.taking.TakeEnd.{TakeEnd}
use Rattle.block_taking.specs.Text.{take_block, need}
use Rattle.op_insert.specs.declared.end.InsertOutcome.TheVariants.{Inserted}
use Rattle.op_insert.specs.declared.end.InsertEnd.{InsertEnd}
use Rattle.op_insert.specs.Text.{Inserting, Part, Result, to_commit, exists_with, start_again, left_again, spent, no_block, need_room, pending_word, ended, ends_again, on_part, insert_from, parts_of, look_of, sweep_of, choice_of, slot_in, after_loss, on_swept, after_sweep, place_block, on_taken, after_taking, take_and_place, on_parent_slot, on_parent_word, choose_filling, help_from, is_plain_at, help, choose_by_parent, choose_among, on_looked, after_look, insert_part}
use Rattle.call_bounds.specs.Bound.{loss_most, tables_most, part_most}
use Rattle.call_bounds.specs.Law.{PartsCost, InsertsCost}
use Rattle.call_bounds.proofs.Costing.{either, words-costs, costs_then}
use Rattle.call_bounds.proofs.Passes.{passes_cost}
use Rattle.call_bounds.proofs.Takings.{takings_cost}

abbrev cost : Part → ℕ
cost p = loss_most * p.left

-- the parent's split is helped
from-costs : (u d n m k total : ℕ) (next : Prog Part) → suc n + k ≤ total → Costs cost k next → Costs cost total (help_from u d next n m)
from-costs u d n m k zero next le h = absurd (omega arith)
from-costs u d zero m k (suc total) next le h = λ found. Costs-more cost k total next (omega arith) h
from-costs u d (suc n) m k (suc total) next le h = λ found. from-costs u d n (m + 1) k total next (omega arith) h

help-costs : (g : Geometry) (u d k total : ℕ) (next : Prog Part) → 2 + 2 * g.groups + k ≤ total → Costs cost k next → Costs cost total (help g u d next)
help-costs g u d k zero next le h = absurd (omega arith)
help-costs g u d k (suc total) next le h = λ word.
    either cost total (is_plain_at d (head_in word)) (help_from u d next (2 * g.groups) 0) next (λ v. from-costs u d (2 * g.groups) 0 k total next (omega arith) h) (λ v. Costs-more cost k total next (omega arith) h)

module _ (i : Inserting) (few : need i.taking ≤ 137) where
  abbrev tables : ℕ
  tables = tables_most i.job.geometry.max_depth

  swept-costs : (own at : ℕ) (area : Area) (left total : ℕ) (p : Passed) (e : PassEnd) → 1 + loss_most * (left - p.lost) ≤ total → Costs cost total (on_swept i own at area left p e)
  swept-costs own at area left zero p e le = absurd (omega arith)
  swept-costs own at area left (suc total) p (Held h) le = λ found. omega (arith, le)
  swept-costs own at area left (suc total) p Clear le = omega (arith, le)
  swept-costs own at area left (suc total) p Gone le = λ found. omega (arith, le)
  swept-costs own at area left (suc total) p Spent le = λ found. omega arith

  loss-costs : (t : ℕ) (kept : Option ℕ) (area : Area) (left total : ℕ) → loss_most * left ≤ total → Costs cost total (after_loss t kept area left)
  loss-costs t kept area left total le = either cost total (nat_le left 1) _ _ (λ v. omega arith) (λ v. omega (arith, le))

  sweep-costs : (t own at : ℕ) (area : Area) (left : ℕ) → Costs cost (tables + loss_most * left + 1) (bind (pass (sweep_of i own left) (Some t)) (after_sweep i own at area left))
  sweep-costs t own at area left =
      costs_then (λ (p : Passed). loss_most * (left - p.lost)) cost (tables + loss_most * left) 1 (pass (sweep_of i own left) (Some t)) (after_sweep i own at area left) (passes_cost (sweep_of i own left) (Some t))
      (λ p. swept-costs own at area left (loss_most * (left - p.lost) + 1) p p.end (omega arith))

  -- the Place, a sweep, and the own word withdrawn
  place-costs : (t own at : ℕ) (area : Area) (left total : ℕ) → 2 + tables + loss_most * left ≤ total → Costs cost total (place_block i t own at area left)
  place-costs t own at area left zero le = absurd (omega arith)
  place-costs t own at area left (suc total) le = λ found.
      either cost total (found == 0) (bind (pass (sweep_of i own left) (Some t)) (after_sweep i own at area left)) (after_loss t (Some at) area left)
      (λ v. Costs-more cost (tables + loss_most * left + 1) total (bind (pass (sweep_of i own left) (Some t)) (after_sweep i own at area left)) (omega arith) (sweep-costs t own at area left))
      (λ v. loss-costs t (Some at) area left total (omega arith))

  taken-costs : (t own total : ℕ) (e : TakeEnd) (o : TakeOutcome) → 2 + tables + loss_most * e.left ≤ total → Costs cost total (on_taken i t own e o)
  taken-costs t own total e (Taken at) le = place-costs t own at e.area e.left total le
  taken-costs t own total e (NoBlockTaken next words) le = omega (arith, le)
  taken-costs t own total e SpentTaking le = omega arith

  -- .. and a block taken before
  abbrev take : ℕ
  take = 148 + tables

  take-costs : (t own : ℕ) (kept : Option ℕ) (area : Area) (left total : ℕ) → take + loss_most * left ≤ total → Costs cost total (take_and_place i t own kept area left)
  take-costs t own (Some at) area left total le = place-costs t own at area left total (omega arith)
  take-costs t own None area left total le =
      let nodes = i.taking.geometry.few in
      Costs-more cost (i.taking.geometry.nodes + 1 + need i.taking + loss_most * left + (2 + tables)) total (bind (take_block i.taking area left) (after_taking i t own)) (omega (arith, few, le, nodes))
      (costs_then (λ (e : TakeEnd). loss_most * e.left) cost (i.taking.geometry.nodes + 1 + need i.taking + loss_most * left) (2 + tables) (take_block i.taking area left) (after_taking i t own) (takings_cost i.taking area left)
      (λ e. taken-costs t own (loss_most * e.left + (2 + tables)) e e.outcome (omega arith)))

  short : (n : ℕ) → nat_le n 137 ≡ true → n ≤ 137
  short n v = grind (arith, nat_tests)

  -- a place of the parent, its block and its hash
  parent-costs : (k e total word : ℕ) (not_free good : Prog Part) → 138 + k ≤ total → Costs cost k not_free → Costs cost k good → Costs cost total (on_parent_word i e not_free good word)
  parent-costs k e total word not_free good le a b =
      either cost total (word == 0) good (on_parent_slot i e not_free good (slot_of word)) (λ v. Costs-more cost k total good (omega arith) b) (λ v. of (slot_of word))
    where
      of : (o : Option Slot) → Costs cost total (on_parent_slot i e not_free good o)
      of None = Costs-more cost k total good (omega arith) b
      of (Some x) = either cost total (nat_le x.len 137) _ good
          (λ v. let few2 = short x.len v in words-costs cost x.at x.len (suc k) total x.at [] _ (omega (arith, few2, le)) (λ ws other. either cost k (other % 2 ^ e == i.job.hash % 2 ^ e) not_free good (λ w. a) (λ w. b)))
          (λ v. Costs-more cost k total good (omega arith) b)

  filling-costs : (p : Passed) (u n : ℕ) (free : List Bool) (o kept : Option ℕ) (area : Area) (left total : ℕ) → n * 139 + take + loss_most * left ≤ total → Costs cost total (choose_filling i p u n free o kept area left)
  filling-costs p u zero free o kept area left total le = omega (arith, le)
  filling-costs p u (suc n) free None kept area left total le = omega (arith, le)
  filling-costs p u (suc n) free (Some x) kept area left zero le = absurd (omega arith)
  filling-costs p u (suc n) free (Some x) kept area left (suc total) le = λ word.
      parent-costs (n * 139 + take + loss_most * left) p.head.depth total word _ _ (omega arith)
      (filling-costs p u n (slice_set free x false) (choice_of i (slice_set free x false)) kept area left (n * 139 + take + loss_most * left) (at_most (n * 139 + take + loss_most * left)))
      (take-costs p.table (slot_in i p.table x) kept area left (n * 139 + take + loss_most * left) (omega arith))
    where
      at_most : (n : ℕ) → n ≤ n
      at_most n = omega arith

  abbrev choose : ℕ
  choose = 2 + 2 * i.job.geometry.groups + 28 * 139 + take

  by_parent-costs : (p : Passed) (x : ℕ) (o kept : Option ℕ) (area : Area) (left total : ℕ) → choose + loss_most * left ≤ total → Costs cost total (choose_by_parent i p x o kept area left)
  by_parent-costs p x None kept area left total le = take-costs p.table (slot_in i p.table x) kept area left total (omega arith)
  by_parent-costs p x (Some u) kept area left total le =
      help-costs i.job.geometry (address_of u) (p.head.depth - 1) (28 * 139 + take + loss_most * left) total _ (omega arith)
      (filling-costs p (address_of u) 28 p.free (choice_of i p.free) kept area left (28 * 139 + take + loss_most * left) (omega arith))

  among-costs : (p : Passed) (o kept : Option ℕ) (area : Area) (left total : ℕ) → choose + loss_most * left ≤ total → Costs cost total (choose_among i p o kept area left)
  among-costs p None kept area left total le = omega (arith, le)
  among-costs p (Some x) kept area left total le =
      either cost total (is_filling p.head.state) (choose_by_parent i p x p.parent kept area left) (take_and_place i p.table (slot_in i p.table x) kept area left)
      (λ v. by_parent-costs p x p.parent kept area left total le) (λ v. take-costs p.table (slot_in i p.table x) kept area left total (omega arith))

  looked-costs : (kept : Option ℕ) (area : Area) (left total : ℕ) (p : Passed) (e : PassEnd) → choose + loss_most * left ≤ total → Costs cost total (on_looked i kept area left p e)
  looked-costs kept area left total p (Held h) le = omega (arith, le)
  looked-costs kept area left total p Clear le = among-costs p (choice_of i p.free) kept area left total le
  looked-costs kept area left total p Gone le = omega arith
  looked-costs kept area left total p Spent le = omega arith

  part-costs : (start kept : Option ℕ) (area : Area) (left : ℕ) → Costs cost (part_most i.job.geometry - 1 + loss_most * left) (insert_part i start kept area left)
  part-costs start kept area left =
      Costs-more cost (tables + loss_most * 0 + (choose + loss_most * left)) (part_most i.job.geometry - 1 + loss_most * left) (insert_part i start kept area left) (omega arith)
      (costs_then (λ (p : Passed). loss_most * (0 - p.lost)) cost (tables + loss_most * 0) (choose + loss_most * left) (pass (look_of i) start) (after_look i kept area left) (passes_cost (look_of i) start)
      (λ p. looked-costs kept area left (loss_most * (0 - p.lost) + (choose + loss_most * left)) p p.end (omega arith)))

  -- An insert ends, or goes on with fewer swaps that may be lost.
  abbrev end_cost : InsertEnd → ℕ
  end_cost e = loss_most * (i.tries - e.lost)

  abbrev Goes : ℕ → (Option ℕ → Area → ℕ → Prog InsertEnd) → Type 0
  Goes n again = (kept : Option ℕ) (area : Area) (left : ℕ) → Costs end_cost (n + loss_most * left) (again kept area left)

  end-costs : (n total : ℕ) (part : Part) (again : Option ℕ → Area → ℕ → Prog InsertEnd) → Goes n again → (r : Result) → suc n + loss_most * part.left ≤ total → Costs end_cost total (on_part i part again r)
  end-costs n zero part again f r le = absurd (omega arith)
  end-costs n (suc total) part again f (to_commit own at) le = λ found. by (found == pending_word i at) (nat_le part.left 1)
    where
      by : (v w : Bool) → Costs end_cost total (cond v (ended i (Inserted at) part) (cond w (ends_again i part) (again None part.area (part.left - 1))))
      by true w = omega (arith, le)
      by false true = omega arith
      by false false = Costs-more end_cost (n + loss_most * (part.left - 1)) total (again None part.area (part.left - 1)) (omega (arith, le)) (f None part.area (part.left - 1))
  end-costs n (suc total) part again f (exists_with h) le = omega (arith, le)
  end-costs n (suc total) part again f start_again le = Costs-more end_cost (n + loss_most * part.left) (suc total) (again part.kept part.area part.left) (omega arith) (f part.kept part.area part.left)
  end-costs n (suc total) part again f left_again le = Costs-more end_cost (n + loss_most * part.left) (suc total) (again part.kept part.area part.left) (omega arith) (f part.kept part.area part.left)
  end-costs n (suc total) part again f spent le = omega arith
  end-costs n (suc total) part again f (no_block next words) le = omega (arith, le)
  end-costs n (suc total) part again f (need_room p) le = omega (arith, le)

  insert_from-costs : (n : ℕ) (start : Option ℕ) → Goes (n * part_most i.job.geometry) (insert_from i n start)
  unfolding insert_from
  insert_from-costs zero start kept area left = omega arith
  insert_from-costs (suc n) start kept area left =
      Costs-more end_cost (part_most i.job.geometry - 1 + loss_most * left + suc (n * part_most i.job.geometry)) (suc n * part_most i.job.geometry + loss_most * left) (insert_from i (suc n) start kept area left) (sum n (part_most i.job.geometry) (omega arith))
      (costs_then cost end_cost (part_most i.job.geometry - 1 + loss_most * left) (suc (n * part_most i.job.geometry)) (insert_part i start kept area left) (λ part. on_part i part (insert_from i n (Some part.table)) part.result) (part-costs start kept area left)
      (λ part. end-costs (n * part_most i.job.geometry) (loss_most * part.left + suc (n * part_most i.job.geometry)) part (insert_from i n (Some part.table)) (insert_from-costs n (Some part.table)) part.result (omega arith)))
    where
      sum : (n v : ℕ) → 1 ≤ v → v - 1 + loss_most * left + suc (n * v) ≤ suc n * v + loss_most * left
      sum n v h = let x = suc-mul n v in omega arith

-- a part costs so much, and so does an insert, whatever is answered
pub parts_cost : PartsCost
parts_cost i start kept area left few = part-costs i few start kept area left

pub inserts_cost : InsertsCost
inserts_cost i start kept area few = insert_from-costs i few (parts_of i) start kept area i.tries
