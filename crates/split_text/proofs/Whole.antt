-- A whole split ends within so many acts, whatever is answered.
use Rattle.std.proofs.Common.{ℕ, zero, suc, ◌+◌, ◌-◌, ◌*◌, ◌≤◌, Bool, true, false, cond, List, arith, le_refl}
use Rattle.std.specs.Prelude.{◌==◌, ◌&&◌, nat_le, nat_lt, slice_set, replicate}
use Rattle.node_words.specs.Addresses.{node_size, table_words}
use Rattle.verbs.specs.Programs.{Prog, Within, Outcomes}
use Rattle.verbs.proofs.Progs.{Within-more, Within-bind_by}
use Rattle.pass_text.specs.Words.{head_in}
use Rattle.split_text.specs.declared.site.Site.{Site}
use Rattle.split_text.specs.declared.site.SplitJob.{SplitJob}
use Rattle.split_text.specs.declared.begun.BeginOutcome.{BeginOutcome}
use Rattle.split_text.specs.declared.begun.BeginOutcome.TheVariants.{Begun, Changed, Locked, Spent, FullWords}
use Rattle.split_text.specs.declared.begun.BeginEnd.{BeginEnd}
use Rattle.split_text.specs.Words.{slot_count, main_count, site_of}
use Rattle.split_text.specs.Begin.{begins, write_buckets, write_child, take_at, take_from, first_node, next_node, lock_lost, begin}
use Rattle.split_text.specs.Text.{slots, after_begin, resize}
use Rattle.split_text.specs.Bound.{begin_acts, resize_acts}
use Rattle.split_text.proofs.Bounds.{begin-within, slots-within, finished}

-- no more swaps may be lost at the end than at the start
module _ (most : ℕ) where
  abbrev Few : BeginEnd → Type 0
  Few e = e.left ≤ most

  either_ends : (v : Bool) (p q : Prog BeginEnd) → Outcomes Few p → Outcomes Few q → Outcomes Few (cond v p q)
  either_ends true p q h k = h
  either_ends false p q h k = k

  begins-few : (j : SplitJob) (site : Site) (left n m : ℕ) → left ≤ most → Outcomes Few (begins j site left n m)
  begins-few j site left zero m le = λ found. le
  begins-few j site left (suc n) m le = λ found. begins-few j site left n (m + 1) le

  buckets-few : (j : SplitJob) (site : Site) (left n m : ℕ) → left ≤ most → Outcomes Few (write_buckets j site left n m)
  buckets-few j site left zero m le = λ found. begins-few j site left (main_count j.geometry) 0 le
  buckets-few j site left (suc n) m le = λ answer. buckets-few j site left n (m + 1) le

  child-few : (j : SplitJob) (site : Site) (left : ℕ) → left ≤ most → Outcomes Few (write_child j site left)
  child-few j site left le = λ x y z. buckets-few j site left (main_count j.geometry) 0 le

  take-few : (j : SplitJob) (left k n : ℕ) (full : ℕ → ℕ → Prog BeginEnd) → left ≤ most → ((next left2 : ℕ) → left2 ≤ most → Outcomes Few (full next left2)) → Outcomes Few (take_at j left k n full)
  take-few j zero k n full le h = λ found. omega arith
  take-few j (suc left) k n full le h =
      either_ends (nat_le (n + table_words j.geometry) ((k + 1) * node_size j.geometry)) _ (full n (suc left))
      (λ found. either_ends (found == n) (write_child j (site_of j n) (suc left)) (take_at j left k found full) (child-few j (site_of j n) (suc left) le) (take-few j left k found full (omega arith) h))
      (h n (suc left) le)

  from-few : (j : SplitJob) (n k left : ℕ) (nexts : List ℕ) → left ≤ most → Outcomes Few (take_from j n k nexts left)
  from-few j zero k left nexts le = λ found. le
  from-few j (suc n) k left nexts le = λ read. take-few j left k read _ le (λ next left2 le2. from-few j n (next_node j.geometry k) left2 (slice_set nexts k next) le2)

  begin-few : (j : SplitJob) (left : ℕ) → left ≤ most → Outcomes Few (begin j left)
  begin-few j left le = λ found. either_ends (found == 0) _ (lock_lost left)
      (λ word. either_ends (((head_in word).depth == j.depth) && nat_lt j.depth j.geometry.max_depth) _ _ (from-few j j.geometry.nodes (first_node j) left (replicate 8 0) le) (λ x. le))
      (either_ends (nat_le left 1) _ _ (omega arith) (omega arith))

begun-within : (j : SplitJob) (most left : ℕ) (o : BeginOutcome) → left ≤ most → Within ((287 * slot_count j.geometry + finished j.geometry) + 285 * (most - 1)) (after_begin j left o)
begun-within j most left (Begun child) le =
    Within-more ((287 * slot_count j.geometry + finished j.geometry) + 285 * (left - 1)) ((287 * slot_count j.geometry + finished j.geometry) + 285 * (most - 1)) (slots j.geometry j.client (site_of j child) (slot_count j.geometry) 0 left) (omega arith)
    (slots-within j.geometry j.client (site_of j child) (slot_count j.geometry) 0 left)
begun-within j most left Changed le = tt
begun-within j most left Locked le = tt
begun-within j most left Spent le = tt
begun-within j most left (FullWords next need) le = tt

-- a split ends within so many acts, whatever is answered
pub resize-within : (j : SplitJob) (left : ℕ) → j.geometry.nodes ≤ 8 → Within (resize_acts j.geometry left) (resize j left)
resize-within j left few =
    Within-more (begin_acts j.geometry left + ((287 * slot_count j.geometry + finished j.geometry) + 285 * (left - 1))) (resize_acts j.geometry left) (resize j left) (omega arith)
    (Within-bind_by (Few left) (begin_acts j.geometry left) ((287 * slot_count j.geometry + finished j.geometry) + 285 * (left - 1)) (begin j left) _ (begin-within j left few) (begin-few left j left (le_refl left)) (λ e le. begun-within j left e.left e.outcome le))
