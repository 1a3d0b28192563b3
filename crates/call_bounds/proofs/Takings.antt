-- A taking ends within so many verbs and what its lost Takes cost, whatever is answered.
use Rattle.std.specs.Prelude.{ℕ, zero, suc, ◌+◌, ◌*◌, ◌≤◌, ◌==◌, nat_le, List, replicate, slice_set}
use Rattle.std.proofs.Common.{arith}
use Rattle.verbs.specs.Programs.{Prog, Costs}
use Rattle.verbs.proofs.Progs.{Costs-more}
use Rattle.pass_text.specs.Words.{address_of}
use Rattle.block_taking.specs.declared.taking.Area.{Area}
use Rattle.block_taking.specs.declared.taking.Taking.{Taking}
use Rattle.block_taking.specs.declared.taking.TakeEnd.{TakeEnd}
use Rattle.block_taking.specs.Text.{need, end_of, next_node, first_node, behind, write_words, write_block, take_at, take_from}
use Rattle.call_bounds.specs.Bound.{loss_most}
use Rattle.call_bounds.specs.Law.{TakingsCost}
use Rattle.call_bounds.proofs.Costing.{either}

abbrev cost : TakeEnd → ℕ
cost e = loss_most * e.left

writes-cost : (t : Taking) (n i at : ℕ) (area : Area) (left total : ℕ) → n + loss_most * left ≤ total → Costs cost total (write_words t n i at area left)
writes-cost t zero i at area left total le = omega (arith, le)
writes-cost t (suc n) i at area left zero le = absurd (omega arith)
writes-cost t (suc n) i at area left (suc total) le = λ answer. writes-cost t n (i + 1) at area left total (omega arith)

-- one node: a Take, and then the block; one more for each that is lost; or the next nodes
at-costs : (t : Taking) (left k n : ℕ) (area : Area) (full : ℕ → ℕ → Prog TakeEnd) (rest total : ℕ) → suc (need t) ≤ rest → rest + loss_most * left ≤ total → ((next left2 : ℕ) → Costs cost (rest + loss_most * left2) (full next left2)) → Costs cost total (take_at t left k n area full)
at-costs t zero k n area full rest total some le h = omega arith
at-costs t (suc left) k n area full rest zero some le h = absurd (omega arith)
at-costs t (suc left) k n area full rest (suc total) some le h =
    either cost (suc total) (nat_le (n + need t) (end_of t k)) _ (full n (suc left))
    (λ e. either cost (suc total) (nat_le (n + 65536) (end_of t k)) _ _
    (λ d found. either cost total (found == n) _ (take_at t left k found area full) (λ w. writes-cost t (need t) 0 n _ (suc left) total (omega arith)) (λ w. at-costs t left k found area full rest total some (omega arith) h))
    (λ d found. either cost total (found == n) (write_block t n area (suc left)) (take_at t left k found area full) (λ w. writes-cost t (need t) 0 n area (suc left) total (omega arith)) (λ w. at-costs t left k found area full rest total some (omega arith) h)))
    (λ e. Costs-more cost (rest + loss_most * suc left) (suc total) (full n (suc left)) (omega arith) (h n (suc left)))

from-costs : (t : Taking) (n k : ℕ) (nexts : List ℕ) (area : Area) (left total : ℕ) → n + 1 + need t + loss_most * left ≤ total → Costs cost total (take_from t n k nexts area left)
from-costs t zero k nexts area left total le = omega (arith, le)
from-costs t (suc n) k nexts area left zero le = absurd (omega arith)
from-costs t (suc n) k nexts area left (suc total) le = λ found.
    at-costs t left k found area (λ next left2. take_from t n (next_node t k) (slice_set nexts k next) area left2) (n + 1 + need t) total (omega arith) (omega arith)
    (λ next left2. from-costs t n (next_node t k) (slice_set nexts k next) area left2 (n + 1 + need t + loss_most * left2) (omega arith))

-- a taking costs so much, whatever is answered
pub takings_cost : TakingsCost
takings_cost t area left =
    either cost (t.geometry.nodes + 1 + need t + loss_most * left) (nat_le (need t) area.left) (write_block t (address_of area.at) (behind (need t) area) left) (take_from t t.geometry.nodes (first_node t) (replicate 8 0) area left)
    (λ e. writes-cost t (need t) 0 (address_of area.at) (behind (need t) area) left (t.geometry.nodes + 1 + need t + loss_most * left) (omega arith))
    (λ e. from-costs t t.geometry.nodes (first_node t) (replicate 8 0) area left (t.geometry.nodes + 1 + need t + loss_most * left) (omega arith))
