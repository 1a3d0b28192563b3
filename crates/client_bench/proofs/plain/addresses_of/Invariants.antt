use Rattle.std.proofs.Common.{◌≡◌}
use Rattle.client_bench.proofs.plain.addresses_of.Given as goal

-- the memory keeps its size
abbrev pub invariant-loop-verb : goal.invariant-loop-verb
invariant-loop-verb l = l.node.log.geometry ≡ l.fn.node.log.geometry
