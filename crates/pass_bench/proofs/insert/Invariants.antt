use Rattle.std.proofs.Common.{◌≡◌}
use Rattle.pass_bench.proofs.insert.Given as goal

-- the memory keeps its size
abbrev pub invariant-loop-i : goal.invariant-loop-i
invariant-loop-i l = l.node.log.geometry ≡ l.fn.node.log.geometry

-- the memory keeps its size
abbrev pub invariant-loop-i-2 : goal.invariant-loop-i-2
invariant-loop-i-2 l = l.node.log.geometry ≡ l.fn.node.log.geometry
