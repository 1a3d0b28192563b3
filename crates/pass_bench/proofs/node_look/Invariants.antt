use Rattle.std.proofs.Common.{◌≡◌}
use Rattle.pass_bench.proofs.node_look.Given as goal

-- the memory keeps its size
abbrev pub invariant-loop-place : goal.invariant-loop-place
invariant-loop-place l = l.node.log.geometry ≡ l.fn.node.log.geometry
