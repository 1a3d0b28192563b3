use Rattle.std.proofs.Common.{◌≡◌, ◌++◌}
use Rattle.thread_play.proofs.lines.append.Given as goal

-- the lines so far, and those that are left
abbrev pub invariant-loop-line : goal.invariant-loop-line
invariant-loop-line l = l.lines.items ++ l.line-iterator ≡ l.initial.lines.items ++ l.more.items
