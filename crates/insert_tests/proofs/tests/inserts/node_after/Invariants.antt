use Rattle.std.proofs.Common.{◌≡◌}
use Rattle.insert_tests.proofs.tests.inserts.node_after.Given as goal

-- the memory keeps its size
abbrev pub invariant-loop-at : goal.invariant-loop-at
invariant-loop-at l = l.node.log.geometry.words ≡ 200
