-- A taking ends within so many verbs, whatever is answered.
use Rattle.std.specs.Prelude.{◌≡◌, ℕ, zero, suc, ◌+◌, ◌-◌, ◌≤◌, Bool, true, false, cond, nat_le, ◌==◌, List, replicate, slice_set, refl}
use Rattle.std.proofs.Common.{arith}
use Rattle.std.proofs.lemmas.Bool.Decides.{nat_tests}
use Rattle.verbs.specs.Programs.{Prog, Within, Outcomes}
use Rattle.verbs.proofs.Progs.{Within-more}
use Rattle.node_words.specs.declared.geometry.Geometry.{Geometry}
use Rattle.pass_text.specs.Words.{address_of}
use Rattle.block_taking.specs.declared.taking.Area.{Area}
use Rattle.block_taking.specs.declared.taking.Taking.{Taking}
use Rattle.block_taking.specs.declared.taking.TakeEnd.{TakeEnd}
use Rattle.block_taking.specs.Text.{need, end_of, next_node, first_node, behind, write_words, write_block, take_at, take_from, take_block}
use Rattle.block_taking.specs.Bound.{taking_verbs}

either : (n : ℕ) (v : Bool) (p q : Prog TakeEnd) → (v ≡ true → Within n p) → (v ≡ false → Within n q) → Within n (cond v p q)
either n true p q h k = h refl
either n false p q h k = k refl

writes-within : (t : Taking) (n i at : ℕ) (area : Area) (left : ℕ) → Within n (write_words t n i at area left)
writes-within t zero i at area left = tt
writes-within t (suc n) i at area left = λ answer. writes-within t n (i + 1) at area left

-- the block in no more verbs than are left
block-within : (t : Taking) (at : ℕ) (area : Area) (left total : ℕ) → need t ≤ total → Within total (write_block t at area left)
block-within t at area left total le = Within-more (need t) total (write_block t at area left) le (writes-within t (need t) 0 at area left)

-- one node: a Take for each swap that may be lost, and then the block, or the next nodes
at-within : (t : Taking) (left k n : ℕ) (area : Area) (full : ℕ → ℕ → Prog TakeEnd) (rest total : ℕ) → need t ≤ rest → left + rest ≤ total → ((next left2 : ℕ) → Within (left2 + rest) (full next left2)) → Within total (take_at t left k n area full)
at-within t zero k n area full rest total some le h = tt
at-within t (suc left) k n area full rest zero some le h = absurd (omega arith)
at-within t (suc left) k n area full rest (suc total) some le h =
    either (suc total) (nat_le (n + need t) (end_of t k)) _ (full n (suc left))
    (λ e. either (suc total) (nat_le (n + 65536) (end_of t k)) _ _
    (λ d found. either total (found == n) _ (take_at t left k found area full) (λ w. block-within t n _ (suc left) total (omega arith)) (λ w. at-within t left k found area full rest total some (omega arith) h))
    (λ d found. either total (found == n) (write_block t n area (suc left)) (take_at t left k found area full) (λ w. block-within t n area (suc left) total (omega arith)) (λ w. at-within t left k found area full rest total some (omega arith) h)))
    (λ e. Within-more (suc left + rest) (suc total) (full n (suc left)) (omega arith) (h n (suc left)))

from-within : (t : Taking) (n k : ℕ) (nexts : List ℕ) (area : Area) (left total : ℕ) → n + left + need t ≤ total → Within total (take_from t n k nexts area left)
from-within t zero k nexts area left total le = tt
from-within t (suc n) k nexts area left zero le = absurd (omega arith)
from-within t (suc n) k nexts area left (suc total) le = λ found.
    at-within t left k found area (λ next left2. take_from t n (next_node t k) (slice_set nexts k next) area left2) (n + need t) total (omega arith) (omega arith)
    (λ next left2. from-within t n (next_node t k) (slice_set nexts k next) area left2 (left2 + (n + need t)) (omega arith))

pub taking-within : (t : Taking) (area : Area) (left : ℕ) → Within (taking_verbs t left) (take_block t area left)
taking-within t area left =
    either (taking_verbs t left) (nat_le (need t) area.left) (write_block t (address_of area.at) (behind (need t) area) left) (take_from t t.geometry.nodes (first_node t) (replicate 8 0) area left)
    (λ e. block-within t (address_of area.at) (behind (need t) area) left (taking_verbs t left) (omega arith))
    (λ e. from-within t t.geometry.nodes (first_node t) (replicate 8 0) area left (taking_verbs t left) (omega arith))

-- no more swaps may be lost afterwards
abbrev Few : ℕ → Prog TakeEnd → Type 0
Few left p = Outcomes (λ (e : TakeEnd). e.left ≤ left) p

few_either : (left : ℕ) (v : Bool) (p q : Prog TakeEnd) → Few left p → Few left q → Few left (cond v p q)
few_either left true p q h k = h
few_either left false p q h k = k

writes-few : (t : Taking) (n i at : ℕ) (area : Area) (left most : ℕ) → left ≤ most → Few most (write_words t n i at area left)
writes-few t zero i at area left most le = le
writes-few t (suc n) i at area left most le = λ answer. writes-few t n (i + 1) at area left most le

at-few : (t : Taking) (left k n : ℕ) (area : Area) (full : ℕ → ℕ → Prog TakeEnd) (most : ℕ) → left ≤ most → ((next left2 : ℕ) → left2 ≤ most → Few most (full next left2)) → Few most (take_at t left k n area full)
at-few t zero k n area full most le h = omega arith
at-few t (suc left) k n area full most le h =
    few_either most (nat_le (n + need t) (end_of t k)) _ (full n (suc left))
    (few_either most (nat_le (n + 65536) (end_of t k)) _ _
    (λ found. few_either most (found == n) _ (take_at t left k found area full) (writes-few t (need t) 0 n _ (suc left) most le) (at-few t left k found area full most (omega arith) h))
    (λ found. few_either most (found == n) (write_block t n area (suc left)) (take_at t left k found area full) (writes-few t (need t) 0 n area (suc left) most le) (at-few t left k found area full most (omega arith) h)))
    (h n (suc left) le)

from-few : (t : Taking) (n k : ℕ) (nexts : List ℕ) (area : Area) (left most : ℕ) → left ≤ most → Few most (take_from t n k nexts area left)
from-few t zero k nexts area left most le = le
from-few t (suc n) k nexts area left most le = λ found.
    at-few t left k found area (λ next left2. take_from t n (next_node t k) (slice_set nexts k next) area left2) most le (λ next left2 le2. from-few t n (next_node t k) (slice_set nexts k next) area left2 most le2)

pub taking-left : (t : Taking) (area : Area) (left : ℕ) → Outcomes (λ (e : TakeEnd). e.left ≤ left) (take_block t area left)
taking-left t area left = few_either left (nat_le (need t) area.left) (write_block t (address_of area.at) (behind (need t) area) left) (take_from t t.geometry.nodes (first_node t) (replicate 8 0) area left)
    (writes-few t (need t) 0 (address_of area.at) (behind (need t) area) left left (same left)) (from-few t t.geometry.nodes (first_node t) (replicate 8 0) area left left (same left))
  where
    same : (x : ℕ) → x ≤ x
    same x = omega arith

pub ruleset bounds = (taking-within, taking-left)
