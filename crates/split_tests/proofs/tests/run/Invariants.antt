-- The acts of a machine.
use Rattle.std.proofs.Common.{◌≡◌}
use Rattle.split_tests.proofs.tests.run.Given as goal

-- the memory keeps its size
abbrev pub invariant-loop-act : goal.invariant-loop-act
invariant-loop-act g l = l.node.log.geometry ≡ l.fn.node.log.geometry
