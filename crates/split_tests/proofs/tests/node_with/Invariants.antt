-- The words that are written.
use Rattle.std.proofs.Common.{◌≡◌}
use Rattle.split_tests.proofs.tests.node_with.Given as goal

-- the memory keeps its size
abbrev pub invariant-loop-at : goal.invariant-loop-at
invariant-loop-at l = l.node.log.geometry.words ≡ 200
