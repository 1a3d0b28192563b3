use Rattle.std.proofs.Common.{◌≡◌, ◌++◌, drop}
use Rattle.std.specs.List.{flat_map}
use Rattle.play_report.specs.Report.{outcome_line}
use Rattle.play_report.proofs.report.put_outcomes.Given as goal

-- the lines so far, and those that are left
abbrev pub invariant-loop-i : goal.invariant-loop-i
invariant-loop-i l =
    l.out.items ++ flat_map (outcome_line l.script.content) (drop l.i l.lines.items) ≡ l.fn.out.items ++ flat_map (outcome_line l.script.content) l.lines.items
