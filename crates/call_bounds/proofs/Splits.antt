-- A split, and one that goes on with a ticket, ends within S and what its lost swaps cost, whatever is answered.
use Rattle.std.specs.Prelude.{ℕ, zero, suc, ◌+◌, ◌-◌, ◌*◌, ◌≤◌}
use Rattle.std.proofs.Common.{arith}
use Rattle.node_words.specs.declared.geometry.Geometry.{Geometry}
use Rattle.verbs.specs.Programs.{Prog, ret, ask, bind, Costs, Outcomes}
use Rattle.verbs.proofs.Progs.{Costs-more, Costs-bind}
use Rattle.directory.specs.declared.naming.Named.{Named}
use Rattle.directory.specs.Text.{naming}
use Rattle.directory.specs.Bound.{naming_verbs}
use Rattle.directory.proofs.Bounds.{naming-within}
use Rattle.split_text.specs.declared.site.Site.{Site}
use Rattle.split_text.specs.declared.site.SplitJob.{SplitJob}
use Rattle.split_text.specs.declared.begun.BeginOutcome.{BeginOutcome}
use Rattle.split_text.specs.declared.begun.BeginOutcome.TheVariants as begin_ends
use Rattle.split_text.specs.declared.moved.MoveOutcome.{MoveOutcome}
use Rattle.split_text.specs.declared.moved.MoveOutcome.TheVariants.{Done, Moved, Spent}
use Rattle.split_text.specs.declared.moved.MoveEnd.{MoveEnd}
use Rattle.split_text.specs.declared.resized.ResizeEnd.{ResizeEnd}
use Rattle.split_text.specs.Words.{cut, site_of, naming_of, slot_count, place_of, main_count}
use Rattle.split_text.specs.Begin.{begin}
use Rattle.split_text.specs.Move.{judge}
use Rattle.split_text.specs.Text.{ripen, name_child, close, finish, after_move, slots, resume_at, after_begin, resize}
use Rattle.call_texts.specs.Bound.{split_most}
use Rattle.call_bounds.specs.Bound.{loss_most}
use Rattle.call_bounds.specs.Law.{SplitsCost, ResumesCost}
use Rattle.call_bounds.proofs.Costing.{costs_then}
use Rattle.call_bounds.proofs.Begins.{begun_cost, begin_cost, begin-costs}
use Rattle.call_bounds.proofs.Places.{cost_of, place_cost, judge-costs}

abbrev cost : ResizeEnd → ℕ
cost r = loss_most * r.left

-- no one outcome of a naming is asked
any : (p : Prog Named) → Outcomes (λ (n : Named). Unit {0}) p
any (ret n) = tt
any (ask act k) = λ answer. any (k answer)

-- from the naming on, and from Finish on
abbrev named : Geometry → ℕ
named g = naming_verbs g.max_depth + (main_count g + 3)

abbrev finished : Geometry → ℕ
finished g = suc (main_count g + named g)

-- from the first slot on
abbrev moved : Geometry → ℕ
moved g = 287 * slot_count g + finished g

module _ (g : Geometry) (c : ℕ) (site : Site) where
  -- after the naming: Ripen and the two locks
  ripen-costs : (left n m total : ℕ) → n + 3 + loss_most * left ≤ total → Costs cost total (ripen g c site left n m)
  ripen-costs left zero m zero le = absurd (omega arith)
  ripen-costs left zero m (suc zero) le = absurd (omega arith)
  ripen-costs left zero m (suc (suc zero)) le = absurd (omega arith)
  ripen-costs left zero m (suc (suc (suc total))) le = λ x y z. omega (arith, le)
  ripen-costs left (suc n) m zero le = absurd (omega arith)
  ripen-costs left (suc n) m (suc total) le = λ found. ripen-costs left n (m + 1) total (omega arith)

  name-costs : (left total : ℕ) → named g + loss_most * left ≤ total → Costs cost total (name_child g c site left)
  name-costs left total le =
      Costs-more cost (naming_verbs g.max_depth + (main_count g + 3 + loss_most * left)) total (name_child g c site left) (omega arith)
      (Costs-bind (λ (n : Named). Unit {0}) cost (naming_verbs g.max_depth) (main_count g + 3 + loss_most * left) (naming (naming_of g site)) (λ n. ripen g c site left (main_count g) 0) (naming-within (naming_of g site)) (any (naming (naming_of g site)))
      (λ n u. ripen-costs left (main_count g) 0 (main_count g + 3 + loss_most * left) (omega arith)))

  close-costs : (left n m total : ℕ) → n + named g + loss_most * left ≤ total → Costs cost total (close g c site left n m)
  close-costs left zero m total le = name-costs left total (omega arith)
  close-costs left (suc n) m zero le = absurd (omega arith)
  close-costs left (suc n) m (suc total) le = λ found. close-costs left n (m + 1) total (omega arith)

  finish-costs : (left total : ℕ) → finished g + loss_most * left ≤ total → Costs cost total (finish g c site left)
  finish-costs left zero le = absurd (omega arith)
  finish-costs left (suc total) le = λ found. close-costs left (main_count g) 0 total (omega arith)

  -- what follows costs no more than k and what may still be lost
  abbrev Goes : ℕ → (ℕ → Prog ResizeEnd) → Type 0
  Goes k next = (left total : ℕ) → k + loss_most * suc (left - 1) ≤ total → Costs cost total (next left)

  -- a place is left: Clear, where a word was moved
  after-costs : (i k total : ℕ) (next : ℕ → Prog ResizeEnd) (e : MoveEnd) (o : MoveOutcome) → Goes k next → cost_of (suc k) e.left o ≤ total → Costs cost total (after_move g c site i next e o)
  after-costs i k total next e Done h le = h e.left total (omega arith)
  after-costs i k zero next e Moved h le = absurd (omega arith)
  after-costs i k (suc total) next e Moved h le = λ found. h e.left total (omega arith)
  after-costs i k total next e Spent h le = omega (arith, le)

  -- a word of a place is judged, and n + 1 swaps may be lost
  judged-costs : (i k n word standing total : ℕ) (next : ℕ → Prog ResizeEnd) → Goes k next → 282 + k + loss_most * suc n ≤ total → Costs cost total (bind (judge site (place_of i) n word standing) (λ e. after_move g c site i next e e.outcome))
  judged-costs i k n word standing total next h le =
      Costs-more cost (282 + k + loss_most * suc n + 0) total (bind (judge site (place_of i) n word standing) (λ e. after_move g c site i next e e.outcome)) (omega arith)
      (costs_then (place_cost (suc k)) cost (282 + k + loss_most * suc n) 0 (judge site (place_of i) n word standing) (λ e. after_move g c site i next e e.outcome)
      (judge-costs (suc k) site (place_of i) n word standing (282 + k + loss_most * suc n) (omega arith))
      (λ e. after-costs i k (place_cost (suc k) e + 0) next e e.outcome h (omega arith)))

  -- a slot: its read, its place, and Clear
  slots-cost : (n i : ℕ) → Goes (287 * n + finished g) (slots g c site n i)
  slots-cost zero i left total le = finish-costs left total (omega arith)
  slots-cost (suc n) i left zero le = absurd (omega arith)
  slots-cost (suc n) i left (suc total) le = λ word. judged-costs i (287 * n + finished g) (left - 1) word 0 total (slots g c site n (i + 1)) (slots-cost n (i + 1)) (omega arith)

  resume-costs : (i word standing left : ℕ) → 1 ≤ left → Costs cost (split_most g + loss_most * left) (resume_at g c site i word standing left)
  resume-costs i word standing left some = by (slot_count g - (i + 1)) (omega arith)
    where
      by : (n : ℕ) → n ≤ slot_count g → Costs cost (split_most g + loss_most * left) (bind (judge site (place_of i) (left - 1) word standing) (λ e. after_move g c site i (slots g c site n (i + 1)) e e.outcome))
      by n few = judged-costs i (287 * n + finished g) (left - 1) word standing (split_most g + loss_most * left) (slots g c site n (i + 1)) (slots-cost n (i + 1)) (omega (arith, few, some))

-- the rest of a split that has begun, or its end
begun-costs : (j : SplitJob) (left total : ℕ) (o : BeginOutcome) → begun_cost (moved j.geometry) left o ≤ total → Costs cost total (after_begin j left o)
begun-costs j left total (begin_ends.Begun child) le = slots-cost j.geometry j.client (site_of j child) (slot_count j.geometry) 0 left total le
begun-costs j left total begin_ends.Changed le = le
begun-costs j left total begin_ends.Locked le = le
begun-costs j left total begin_ends.Spent le = le
begun-costs j left total (begin_ends.FullWords next need) le = le

-- a split costs so much, whatever is answered
pub splits_cost : SplitsCost
splits_cost j left some = by (split_most j.geometry + loss_most * left) (let few = j.geometry.few in omega (arith, few))
  where
    by : (total : ℕ) → j.geometry.nodes + (2 * main_count j.geometry + 6 + moved j.geometry) + 2 + loss_most * left ≤ total → Costs cost total (resize j left)
    by total le =
        Costs-more cost (total + 0) total (resize j left) (omega arith)
        (costs_then (begin_cost j (moved j.geometry)) cost total 0 (begin j left) (λ e. after_begin j e.left e.outcome) (begin-costs j (moved j.geometry) left total le)
        (λ e. begun-costs j e.left (begin_cost j (moved j.geometry) e + 0) e.outcome (omega arith)))

pub resumes_cost : ResumesCost
resumes_cost t left some = resume-costs t.geometry t.client (cut t.site) t.slot t.word t.copy left some
