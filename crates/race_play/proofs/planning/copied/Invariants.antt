use Rattle.std.proofs.Common.{◌≡◌, ◌++◌}
use Rattle.race_play.proofs.planning.copied.Given as goal

-- the calls so far, and those that are left
abbrev pub invariant-loop-call : goal.invariant-loop-call
invariant-loop-call l = l.copy.items ++ l.call-iterator ≡ l.calls.items
