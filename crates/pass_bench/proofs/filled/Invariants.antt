use Rattle.std.proofs.Common.{◌≡◌}
use Rattle.pass_bench.proofs.filled.Given as goal

-- the memory keeps its size
abbrev pub invariant-loop-i : goal.invariant-loop-i
invariant-loop-i l = l.node.log.geometry.words ≡ 4096
