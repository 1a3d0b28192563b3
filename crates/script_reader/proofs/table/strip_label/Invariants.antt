use Rattle.std.proofs.Common.{◌≡◌, length}
use Rattle.script_reader.specs.Rules.{behind_label}
use Rattle.script_reader.proofs.table.strip_label.Given as goal

-- the label so far stands at the front
abbrev pub invariant-loop-left : goal.invariant-loop-left
invariant-loop-left l = behind_label l.left l.rest ≡ behind_label l.label l.word

abbrev pub decreases-loop-left : goal.decreases-loop-left
decreases-loop-left l = length l.left
