use Rattle.std.proofs.Common.{◌≡◌}
use Rattle.pass_bench.proofs.node_looks.Given as goal

-- the memory keeps its size
abbrev pub invariant-loop : goal.invariant-loop
invariant-loop l = l.node.log.geometry.words ≡ 4096
