use Rattle.std.proofs.Common.{◌≡◌}
use Rattle.op_update.proofs.tests.node_after.Given as goal

-- the memory keeps its size
abbrev pub invariant-loop-at : goal.invariant-loop-at
invariant-loop-at l = l.node.log.geometry.words ≡ 200
