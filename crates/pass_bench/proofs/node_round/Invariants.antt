use Rattle.std.proofs.Common.{◌≡◌}
use Rattle.pass_bench.proofs.node_round.Given as goal

-- the memory keeps its size
abbrev pub invariant-loop-key : goal.invariant-loop-key
invariant-loop-key l = l.node.log.geometry ≡ l.fn.node.log.geometry
