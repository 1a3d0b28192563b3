-- A place of a table under split is left within so many acts and what its lost swaps cost, whatever is answered.
use Rattle.std.specs.Prelude.{◌≡◌, ℕ, zero, suc, ◌+◌, ◌-◌, ◌*◌, ◌≤◌, ◌==◌, nat_le, true, Option, Some, None, []}
use Rattle.std.proofs.Common.{arith}
use Rattle.std.proofs.lemmas.Bool.Decides.{nat_tests}
use Rattle.slot_word.specs.declared.slots.Mark.{Mark}
use Rattle.slot_word.specs.declared.slots.Mark.TheVariants.{Live, Pending, Copied, Moved}
use Rattle.slot_word.specs.declared.slots.Slot.{Slot}
use Rattle.slot_word.specs.Slots.{slot_of}
use Rattle.verbs.specs.Programs.{Prog, Costs}
use Rattle.verbs.proofs.Progs.{Costs-more}
use Rattle.split_text.specs.declared.site.Site.{Site}
use Rattle.split_text.specs.declared.moved.MoveOutcome.{MoveOutcome}
use Rattle.split_text.specs.declared.moved.MoveOutcome.TheVariants.{Done, Moved as MovedOn, Spent}
use Rattle.split_text.specs.declared.moved.MoveEnd.{MoveEnd}
use Rattle.split_text.specs.Words.{marked}
use Rattle.split_text.specs.Move.{left_so, if_leaving, uncopy, drop_word, settle, flip, copy, stay, judge_mark, judge_slot, judge_word, read_again, turn, judge}
use Rattle.call_bounds.specs.Bound.{loss_most}
use Rattle.call_bounds.proofs.Costing.{either, words-costs}

few_words : (n : ℕ) → nat_le n 137 ≡ true → n ≤ 137
few_words n e = grind (arith, nat_tests)

leaving-costs : (cost : MoveEnd → ℕ) (site : Site) (slot : Slot) (most total : ℕ) (leaving staying : Prog MoveEnd) → 138 + most ≤ total → Costs cost most leaving → Costs cost most staying → Costs cost total (if_leaving site slot leaving staying)
leaving-costs cost site slot most total leaving staying le h k =
    either cost total (nat_le slot.len 137) _ staying
    (λ e. let few = few_words slot.len e in words-costs cost slot.at slot.len (suc most) total slot.at [] _ (omega (arith, few, le)) (λ ks hash. either cost most _ leaving staying (λ f. h) (λ f. k)))
    (λ e. Costs-more cost most total staying (omega arith) k)

-- what follows costs no more than this: of a place that is left, and of a lost swap
module _ (cost : MoveEnd → ℕ) (site : Site) (p left most : ℕ) (lost : ℕ → ℕ → Prog MoveEnd) (loses : (found standing : ℕ) → Costs cost most (lost found standing)) (done : (word : ℕ) → cost (record { outcome = Done; word = word; standing = 0; left = left }) ≤ most) (moved : (word : ℕ) → cost (record { outcome = MovedOn; word = word; standing = 0; left = left }) ≤ most) where
  uncopy-costs : (total standing : ℕ) (go_on : Prog MoveEnd) → Costs cost total go_on → Costs cost (suc total) (uncopy site p left standing go_on)
  uncopy-costs total standing go_on h =
      either cost (suc total) (standing == 0) go_on _ (λ e. Costs-more cost total (suc total) go_on (omega arith) h) (λ e found. h)

  drop-costs : (word : ℕ) → Costs cost (suc most) (drop_word site p left word lost)
  drop-costs word = λ found. either cost most (found == word) _ (lost found 0) (λ e. done word) (λ e. loses found 0)

  flip-costs : (word : ℕ) (slot : Slot) → Costs cost (suc (suc most)) (flip site p left word slot lost)
  flip-costs word slot = λ found.
      either cost (suc most) (found == word) (settle site p left slot) (lost found (marked Copied slot))
      (λ e x. moved (marked Moved slot)) (λ e. Costs-more cost most (suc most) (lost found (marked Copied slot)) (omega arith) (loses found (marked Copied slot)))

  copy-costs : (word standing total : ℕ) (slot : Slot) (again : Prog MoveEnd) → 2 + most ≤ total → Costs cost total again → Costs cost (suc total) (copy site p left word standing slot again lost)
  copy-costs word standing total slot again le h = λ found.
      either cost total (found == standing) (flip site p left word slot lost) again
      (λ e. Costs-more cost (suc (suc most)) total (flip site p left word slot lost) (omega arith) (flip-costs word slot)) (λ e. h)

  stay-costs : (word standing total : ℕ) → suc most ≤ total → Costs cost total (stay site p left word standing)
  stay-costs word standing total le = Costs-more cost (suc most) total (stay site p left word standing) le (uncopy-costs most standing (left_so Done word 0 left) (done word))

  mark-costs : (word standing total : ℕ) (slot : Slot) (mark : Mark) (again : Prog MoveEnd) → 2 + most ≤ total → Costs cost total again → Costs cost (139 + total) (judge_mark site p left word standing slot mark again lost)
  mark-costs word standing total slot Live again le h =
      leaving-costs cost site slot (suc total) (139 + total) _ _ (omega arith) (copy-costs word standing total slot again le h) (stay-costs word standing (suc total) (omega arith))
  mark-costs word standing total slot Pending again le h =
      leaving-costs cost site slot (suc total) (139 + total) _ _ (omega arith)
      (Costs-more cost (suc (suc most)) (suc total) (uncopy site p left standing (drop_word site p left word lost)) (omega arith) (uncopy-costs (suc most) standing (drop_word site p left word lost) (drop-costs word)))
      (stay-costs word standing (suc total) (omega arith))
  mark-costs word standing total slot Copied again le h = stay-costs word standing (139 + total) (omega arith)
  mark-costs word standing total slot Moved again le h = stay-costs word standing (139 + total) (omega arith)

  slot-costs : (word standing total : ℕ) (o : Option Slot) (again : Prog MoveEnd) → 2 + most ≤ total → Costs cost total again → Costs cost (139 + total) (judge_slot site p left word standing o again lost)
  slot-costs word standing total None again le h = stay-costs word standing (139 + total) (omega arith)
  slot-costs word standing total (Some slot) again le h = mark-costs word standing total slot slot.mark again le h

  again-costs : Costs cost (suc (141 + most)) (read_again site p left lost)
  again-costs = λ word.
      Costs-more cost (139 + (2 + most)) (141 + most) (judge_word site p left word 0 (left_so Done word 0 left) lost) (omega arith)
      (slot-costs word 0 (2 + most) (slot_of word) (left_so Done word 0 left) (omega arith) (let d = done word in omega (arith, d)))

  turn-costs : (word standing total : ℕ) → 281 + most ≤ total → Costs cost total (turn site p left word standing lost)
  turn-costs word standing total le =
      Costs-more cost (139 + suc (141 + most)) total (turn site p left word standing lost) (omega arith) (slot-costs word standing (suc (141 + most)) (slot_of word) (read_again site p left lost) (omega arith) again-costs)

-- what follows a place that is left costs k, and what may still be lost
abbrev pub cost_of : ℕ → ℕ → MoveOutcome → ℕ
cost_of k left Done = k + loss_most * suc (left - 1)
cost_of k left MovedOn = k + loss_most * suc (left - 1)
cost_of k left Spent = loss_most * left

abbrev pub place_cost : ℕ → MoveEnd → ℕ
place_cost k e = cost_of k e.left e.outcome

-- a word of a place is judged, and n + 1 swaps may be lost
pub judge-costs : (k : ℕ) (site : Site) (p n word standing total : ℕ) → 281 + k + loss_most * suc n ≤ total → Costs (place_cost k) total (judge site p n word standing)
judge-costs k site p zero word standing total le =
    turn-costs (place_cost k) site p 1 (k + loss_most) _ (λ found standing2. omega arith) (λ w. omega arith) (λ w. omega arith) word standing total (omega arith)
judge-costs k site p (suc n) word standing total le =
    turn-costs (place_cost k) site p (suc (suc n)) (k + loss_most * suc (suc n)) _ (λ found standing2. judge-costs k site p n found standing2 (k + loss_most * suc (suc n)) (omega arith)) (λ w. omega arith) (λ w. omega arith) word standing total (omega arith)
