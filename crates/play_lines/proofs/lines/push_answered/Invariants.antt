use Rattle.std.proofs.Common.{◌≡◌, ◌++◌, map, drop}
use Rattle.play_lines.specs.PlayLines.{answered_line, records_at}
use Rattle.play_lines.proofs.lines.push_answered.Given as goal

-- the lines so far, and those of the places that are left
abbrev pub invariant-loop-place : goal.invariant-loop-place
invariant-loop-place l =
    l.lines.items ++ map answered_line (records_at l.records.items (drop l.place-index l.places)) ≡ l.fn.lines.items ++ map answered_line (records_at l.records.items l.places)
