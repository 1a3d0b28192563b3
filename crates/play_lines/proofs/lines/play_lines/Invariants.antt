use Rattle.std.proofs.Common.{◌≡◌, ◌++◌, drop}
use Rattle.play_lines.specs.PlayLines.{lines_from, lines_of}
use Rattle.play_lines.proofs.lines.play_lines.Given as goal

-- the lines so far, and those of the clients that are left
abbrev pub invariant-loop-client : goal.invariant-loop-client
invariant-loop-client l = l.lines.items ++ lines_from l.client (drop l.client l.unfinished) l.records.items ≡ lines_of l.records.items l.unfinished
