-- The words that are read.
use Rattle.std.proofs.Common.{◌≡◌}
use Rattle.split_tests.proofs.tests.splits.opens_a_split.Given as goal

-- the memory keeps its size
abbrev pub invariant-loop-at : goal.invariant-loop-at
invariant-loop-at g l = l.node.log.geometry.words ≡ 200
