use Rattle.std.proofs.Common.{◌≡◌}
use Rattle.client_bench.proofs.machine.work.Given as goal

-- the memory keeps its size
abbrev pub invariant-loop-number : goal.invariant-loop-number
invariant-loop-number l = l.node.log.geometry ≡ l.fn.node.log.geometry
