use Rattle.std.proofs.Common.{◌≡◌, ◌++◌, drop}
use Rattle.thread_play.specs.Played.{lines_by}
use Rattle.thread_play.proofs.lines.lines_by.Given as goal

-- the lines so far, and those of the workers that are left
abbrev pub invariant-loop-worked : goal.invariant-loop-worked
invariant-loop-worked l = l.lines.items ++ lines_by (drop l.worked-index l.all) ≡ lines_by l.all
