-- The first half of a split ends within so many acts and what its lost Takes cost, whatever is answered.
use Rattle.std.specs.Prelude.{ℕ, zero, suc, ◌+◌, ◌-◌, ◌*◌, ◌≤◌, ◌==◌, ◌&&◌, nat_le, nat_lt, List, slice_set, replicate}
use Rattle.std.proofs.Common.{arith}
use Rattle.node_words.specs.Addresses.{node_size, table_words}
use Rattle.verbs.specs.Programs.{Prog, Costs}
use Rattle.pass_text.specs.Words.{head_in}
use Rattle.split_text.specs.declared.site.Site.{Site}
use Rattle.split_text.specs.declared.site.SplitJob.{SplitJob}
use Rattle.split_text.specs.declared.begun.BeginOutcome.{BeginOutcome}
use Rattle.split_text.specs.declared.begun.BeginOutcome.TheVariants.{Begun, Changed, Locked, Spent, FullWords}
use Rattle.split_text.specs.declared.begun.BeginEnd.{BeginEnd}
use Rattle.split_text.specs.Words.{main_count, site_of}
use Rattle.split_text.specs.Begin.{begins, link, write_buckets, write_child, take_at, take_from, first_node, next_node, header_read, lock_lost, begin}
use Rattle.call_bounds.specs.Bound.{loss_most}
use Rattle.call_bounds.proofs.Costing.{either}

-- what follows costs k where the split has begun, and what may still be lost
abbrev pub begun_cost : ℕ → ℕ → BeginOutcome → ℕ
begun_cost k left (Begun child) = k + loss_most * suc (left - 1)
begun_cost k left Changed = loss_most * left
begun_cost k left Locked = loss_most * left
begun_cost k left Spent = loss_most * left
begun_cost k left (FullWords next need) = loss_most * left

module _ (j : SplitJob) (k : ℕ) where
  abbrev pub begin_cost : BeginEnd → ℕ
  begin_cost e = begun_cost k e.left e.outcome

  begins-cost : (site : Site) (left n m total : ℕ) → n + 1 + k + loss_most * suc (left - 1) ≤ total → Costs begin_cost total (begins j site left n m)
  begins-cost site left zero m zero le = absurd (omega arith)
  begins-cost site left zero m (suc total) le = λ found. omega (arith, le)
  begins-cost site left (suc n) m zero le = absurd (omega arith)
  begins-cost site left (suc n) m (suc total) le = λ found. begins-cost site left n (m + 1) total (omega arith)

  link-costs : (site : Site) (left total : ℕ) → main_count j.geometry + 2 + k + loss_most * suc (left - 1) ≤ total → Costs begin_cost total (link j site left)
  link-costs site left zero le = absurd (omega arith)
  link-costs site left (suc total) le = λ found. begins-cost site left (main_count j.geometry) 0 total (omega arith)

  buckets-cost : (site : Site) (left n m total : ℕ) → n + main_count j.geometry + 2 + k + loss_most * suc (left - 1) ≤ total → Costs begin_cost total (write_buckets j site left n m)
  buckets-cost site left zero m total le = link-costs site left total (omega arith)
  buckets-cost site left (suc n) m zero le = absurd (omega arith)
  buckets-cost site left (suc n) m (suc total) le = λ answer. buckets-cost site left n (m + 1) total (omega arith)

  child-costs : (site : Site) (left total : ℕ) → 2 * main_count j.geometry + 5 + k + loss_most * suc (left - 1) ≤ total → Costs begin_cost total (write_child j site left)
  child-costs site left zero le = absurd (omega arith)
  child-costs site left (suc zero) le = absurd (omega arith)
  child-costs site left (suc (suc zero)) le = absurd (omega arith)
  child-costs site left (suc (suc (suc total))) le = λ x y z. buckets-cost site left (main_count j.geometry) 0 total (omega arith)

  -- a Take, and what is done after the words are taken
  abbrev taken : ℕ
  taken = 2 * main_count j.geometry + 6 + k

  take-costs : (left i n most total : ℕ) (full : ℕ → ℕ → Prog BeginEnd) → ((next left2 room : ℕ) → most + loss_most * left2 ≤ room → Costs begin_cost room (full next left2)) → taken ≤ most → most + loss_most * left ≤ total → Costs begin_cost total (take_at j left i n full)
  take-costs zero i n most zero full h few le = absurd (omega arith)
  take-costs zero i n most (suc total) full h few le = λ found. omega arith
  take-costs (suc left) i n most zero full h few le = absurd (omega arith)
  take-costs (suc left) i n most (suc total) full h few le =
      either begin_cost (suc total) (nat_le (n + table_words j.geometry) ((i + 1) * node_size j.geometry)) _ (full n (suc left))
      (λ e found. either begin_cost total (found == n) (write_child j (site_of j n) (suc left)) (take_at j left i found full)
      (λ w. child-costs (site_of j n) (suc left) total (omega arith))
      (λ w. take-costs left i found most total full h few (omega arith)))
      (λ e. h n (suc left) (suc total) (omega arith))

  from-costs : (n i left total : ℕ) (nexts : List ℕ) → n + taken + loss_most * left ≤ total → Costs begin_cost total (take_from j n i nexts left)
  from-costs zero i left zero nexts le = absurd (omega arith)
  from-costs zero i left (suc total) nexts le = λ found. omega (arith, le)
  from-costs (suc n) i left zero nexts le = absurd (omega arith)
  from-costs (suc n) i left (suc total) nexts le = λ read.
      take-costs left i read (n + taken) total _ (λ next left2 room le2. from-costs n (next_node j.geometry i) left2 room (slice_set nexts i next) (omega arith)) (omega arith) (omega arith)

  lost-costs : (left total : ℕ) → loss_most * left ≤ total → Costs begin_cost total (lock_lost left)
  lost-costs left total le = either begin_cost total (nat_le left 1) _ _ (λ e. omega arith) (λ e. omega (arith, le))

  read-costs : (left total word : ℕ) → j.geometry.nodes + taken + loss_most * left ≤ total → Costs begin_cost total (header_read j left word)
  read-costs left zero word le = absurd (omega arith)
  read-costs left (suc total) word le =
      either begin_cost (suc total) (((head_in word).depth == j.depth) && nat_lt j.depth j.geometry.max_depth) _ _
      (λ e. from-costs j.geometry.nodes (first_node j) left (suc total) (replicate 8 0) (omega arith)) (λ e found. omega (arith, le))

  -- the first half of a split
  pub begin-costs : (left total : ℕ) → j.geometry.nodes + taken + 2 + loss_most * left ≤ total → Costs begin_cost total (begin j left)
  begin-costs left zero le = absurd (omega arith)
  begin-costs left (suc zero) le = absurd (omega arith)
  begin-costs left (suc (suc total)) le = λ found.
      either begin_cost (suc total) (found == 0) _ (lock_lost left) (λ e word. read-costs left total word (omega arith)) (λ e. lost-costs left (suc total) (omega arith))
