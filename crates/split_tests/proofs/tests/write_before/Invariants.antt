-- The words that others write.
use Rattle.std.proofs.Common.{◌≡◌}
use Rattle.split_tests.proofs.tests.write_before.Given as goal

-- the memory keeps its size
abbrev pub invariant-loop-before : goal.invariant-loop-before
invariant-loop-before l = l.node.log.geometry ≡ l.fn.node.log.geometry
