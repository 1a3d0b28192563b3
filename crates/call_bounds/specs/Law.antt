-- What is proved of how many verbs and hashes the parts of a call do, where each lost swap is counted once: whatever is answered, a
-- part that may lose so many swaps ends within its bound and what these may cost, less what those may still cost that it left.
use Rattle.std.specs.Prelude.{ℕ, ◌+◌, ◌-◌, ◌*◌, ◌≤◌, Option}
use Rattle.node_words.specs.declared.geometry.Geometry.{Geometry}
use Rattle.verbs.specs.Programs.{Costs}
use Rattle.pass_text.specs.declared.job.Job.{Job}
use Rattle.pass_text.specs.declared.passed.Passed.{Passed}
use Rattle.pass_text.specs.Words.{left_in}
use Rattle.pass_text.specs.Pass.{pass}
use Rattle.block_taking.specs.declared.taking.Area.{Area}
use Rattle.block_taking.specs.declared.taking.Taking.{Taking}
use Rattle.block_taking.specs.declared.taking.TakeEnd.{TakeEnd}
use Rattle.block_taking.specs.Text.{take_block, need}
use Rattle.op_insert.specs.declared.end.InsertEnd.{InsertEnd}
use Rattle.op_insert.specs.Text.{Inserting, Part, insert_part, parts_of, insert}
use Rattle.split_text.specs.declared.site.SplitJob.{SplitJob}
use Rattle.split_text.specs.declared.site.Ticket.{Ticket}
use Rattle.split_text.specs.declared.resized.ResizeEnd.{ResizeEnd}
use Rattle.split_text.specs.Text.{resize, resume}
use Rattle.call_texts.specs.Bound.{split_most, call_most}
use Rattle.call_bounds.specs.Bound.{loss_most, tables_most, part_most, insert_most}

-- each pass
abbrev pub PassesCost : Type 0
PassesCost = (j : Job) (start : Option ℕ) → Costs (λ (p : Passed). loss_most * (left_in j.mode - p.lost)) (tables_most j.geometry.max_depth + loss_most * left_in j.mode) (pass j start)

-- each taking of a block
abbrev pub TakingsCost : Type 0
TakingsCost = (t : Taking) (area : Area) (left : ℕ) → Costs (λ (e : TakeEnd). loss_most * e.left) (t.geometry.nodes + 1 + need t + loss_most * left) (take_block t area left)

-- each part of an insert, but for its Commit
abbrev pub PartsCost : Type 0
PartsCost = (i : Inserting) (start kept : Option ℕ) (area : Area) (left : ℕ) → need i.taking ≤ 137 → Costs (λ (p : Part). loss_most * p.left) (part_most i.job.geometry - 1 + loss_most * left) (insert_part i start kept area left)

-- each insert without its splits
abbrev pub InsertsCost : Type 0
InsertsCost = (i : Inserting) (start kept : Option ℕ) (area : Area) → need i.taking ≤ 137 → Costs (λ (e : InsertEnd). loss_most * (i.tries - e.lost)) (parts_of i * part_most i.job.geometry + loss_most * i.tries) (insert i start kept area)

-- each split
abbrev pub SplitsCost : Type 0
SplitsCost = (j : SplitJob) (left : ℕ) → 1 ≤ left → Costs (λ (r : ResizeEnd). loss_most * r.left) (split_most j.geometry + loss_most * left) (resize j left)

-- .. and each that goes on with a ticket
abbrev pub ResumesCost : Type 0
ResumesCost = (t : Ticket) (left : ℕ) → 1 ≤ left → Costs (λ (r : ResizeEnd). loss_most * r.left) (split_most t.geometry + loss_most * left) (resume t left)

-- B has room for so many parts of an insert and for the swaps that it may lose: one starts again where a swap is lost, where more
-- depth is reached, once in a full table, and once where a ticket's split is done
abbrev pub PartsFit : Type 0
PartsFit = (g : Geometry) (tries : ℕ) → (tries + (g.max_depth - g.first_depth) + 2) * insert_most g + loss_most * tries ≤ call_most g tries
