-- What is the same program as a first half ends as soon, and waits.
use Rattle.std.specs.Prelude.{◌≡◌, ℕ, ◌≤◌, IsSome, refl}
use Rattle.std.proofs.Common.{sym, ◌∙◌, ap, subst}
use Rattle.verbs.specs.Programs.{Prog, bind, next_act, Within}
use Rattle.split_text.specs.declared.site.SplitJob.{SplitJob}
use Rattle.split_text.specs.declared.begun.BeginEnd.{BeginEnd}
use Rattle.split_text.specs.declared.resized.ResizeEnd.{ResizeEnd}
use Rattle.split_text.specs.Text.{after_begin, resize}
use Rattle.split_text.proofs.Whole.{resize-within}
use Rattle.split_text.specs.Begin.{begin}
use Rattle.split_text.specs.Bound.{begin_acts, resize_acts}
use Rattle.split_text.proofs.Bounds.{begin-within}

pub within_as_begin : (j : SplitJob) (left : ℕ) (program : Prog BeginEnd) → program ≡ begin j left → j.geometry.nodes ≤ 8 → Within (begin_acts j.geometry left) program
within_as_begin j left program e few = subst (Within (begin_acts j.geometry left)) (sym e) (begin-within j left few)

pub waits_as_begin : (j : SplitJob) (left : ℕ) (program : Prog BeginEnd) → program ≡ begin j left → IsSome (next_act program)
waits_as_begin j left program e = subst (λ v. IsSome (next_act v)) (sym e) refl

-- the first half and what follows it is the whole split
pub split_of : (j k : SplitJob) (left : ℕ) (program : Prog BeginEnd) → program ≡ begin j left → k ≡ j → bind program (λ e. after_begin k e.left e.outcome) ≡ resize j left
split_of j k left program e f = ap (λ p. bind p (λ e. after_begin k e.left e.outcome)) e ∙ ap (λ (v : SplitJob). bind (begin j left) (λ e. after_begin v e.left e.outcome)) f

pub within_as_split : (j : SplitJob) (left : ℕ) (program : Prog ResizeEnd) → program ≡ resize j left → j.geometry.nodes ≤ 8 → Within (resize_acts j.geometry left) program
within_as_split j left program e few = subst (Within (resize_acts j.geometry left)) (sym e) (resize-within j left few)

pub waits_as_split : (j : SplitJob) (left : ℕ) (program : Prog ResizeEnd) → program ≡ resize j left → IsSome (next_act program)
waits_as_split j left program e = subst (λ v. IsSome (next_act v)) (sym e) refl
