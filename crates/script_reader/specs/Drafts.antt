-- What the code has read.
use Rattle.std.specs.Prelude.{Option, Some, None}
use Rattle.script_reader.specs.declared.draft.Draft.{Draft}
use Rattle.script_reader.specs.declared.draft.Step.{Step}
use Rattle.script_reader.specs.declared.draft.Step.TheVariants as step
use Rattle.script_reader.specs.Rules.{Reading}

abbrev pub reading_of : Draft → Reading
reading_of d = record { calls = d.calls; content = d.body }

-- what there is after a line, or nothing more
abbrev pub step_told : Reading → Step → Option Reading
step_told r step.More = Some r
step_told r step.End = None
