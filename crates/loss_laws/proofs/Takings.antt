-- The Takes that a taking loses.
use Rattle.std.specs.Prelude.{◌≡◌, ℕ, zero, suc, ◌+◌, ◌≤◌, ◌*◌, Bool, true, false, cond, nat_le, List, replicate, slice_set, refl}
use Rattle.std.proofs.Common.{arith}
use Rattle.node_words.specs.Addresses.{node_at}
use Rattle.verbs.specs.Programs.{Prog}
use Rattle.pass_text.specs.Words.{address_of}
use Rattle.block_taking.specs.declared.taking.Area.{Area}
use Rattle.block_taking.specs.declared.taking.Taking.{Taking}
use Rattle.block_taking.specs.declared.taking.TakeEnd.{TakeEnd}
use Rattle.block_taking.specs.declared.taking.TakeOutcome.{TakeOutcome}
use Rattle.block_taking.specs.declared.taking.TakeOutcome.TheVariants.{Taken, NoBlock, Spent}
use Rattle.block_taking.specs.Text.{need, end_of, first_node, next_node, behind, write_words, take_at, take_from, take_block}
use Rattle.loss_laws.specs.Loses.{Loses}
use Rattle.loss_laws.proofs.Rules.{counted, pick}

-- how many swaps may still be lost after a taking
abbrev pub spare_taken : TakeOutcome → ℕ → ℕ
spare_taken (Taken at) left = left
spare_taken (NoBlock next words) left = left
spare_taken Spent left = 0

abbrev pub TakeLost : ℕ → ℕ → ℕ → TakeEnd → Type 0
TakeLost least most n e = (least ≤ n + spare_taken e.outcome e.left) × (e.left ≤ most)

module _ (t : Taking) (least most : ℕ) where
  abbrev E : ℕ → TakeEnd → Type 0
  E n e = TakeLost least most n e

  write-loses : (m i at : ℕ) (area : Area) (left n : ℕ) → least ≤ n + left → left ≤ most → Loses E n (write_words t m i at area left)
  write-loses zero i at area left n h le = (h, le)
  write-loses (suc m) i at area left n h le = λ word. write-loses m (i + 1) at area left n h le

  at-loses : (left k number : ℕ) (area : Area) (full : ℕ → ℕ → Prog TakeEnd) (n : ℕ) → least ≤ n + left → left ≤ most → ((next left2 m : ℕ) → least ≤ m + left2 → left2 ≤ most → Loses E m (full next left2)) → Loses E n (take_at t left k number area full)
  at-loses zero k number area full n h le goes = (h, omega arith)
  at-loses (suc left) k number area full n h le goes =
      pick E n (nat_le (number + need t) (end_of t k)) _ (full number (suc left))
      (λ v. pick E n (nat_le (number + 65536) (end_of t k)) _ _
      (λ w. counted E n (node_at t.geometry k) number (number + 1024) _ (λ found. take_at t left k found area full) (write-loses (need t) 0 number _ (suc left) n h le) (λ found. at-loses left k found area full (suc n) (omega arith) (omega arith) goes))
      (λ w. counted E n (node_at t.geometry k) number (number + need t) _ (λ found. take_at t left k found area full) (write-loses (need t) 0 number area (suc left) n h le) (λ found. at-loses left k found area full (suc n) (omega arith) (omega arith) goes)))
      (λ v. goes number (suc left) n h le)

  from-loses : (m k : ℕ) (nexts : List ℕ) (area : Area) (left n : ℕ) → least ≤ n + left → left ≤ most → Loses E n (take_from t m k nexts area left)
  from-loses zero k nexts area left n h le = (h, le)
  from-loses (suc m) k nexts area left n h le = λ found. at-loses left k found area _ n h le (λ next left2 n2 h2 le2. from-loses m (next_node t k) (slice_set nexts k next) area left2 n2 h2 le2)

  pub take-loses : (area : Area) (left n : ℕ) → least ≤ n + left → left ≤ most → Loses E n (take_block t area left)
  take-loses area left n h le =
      pick E n (nat_le (need t) area.left) _ _ (λ v. write-loses (need t) 0 (address_of area.at) (behind (need t) area) left n h le)
      (λ v. from-loses t.geometry.nodes (first_node t) (replicate 8 0) area left n h le)
