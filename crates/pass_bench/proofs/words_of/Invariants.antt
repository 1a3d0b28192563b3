use Rattle.std.proofs.Common.{◌≡◌}
use Rattle.pass_bench.proofs.words_of.Given as goal

-- the memory keeps its size
abbrev pub invariant-loop-at : goal.invariant-loop-at
invariant-loop-at l = l.node.log.geometry ≡ l.fn.node.log.geometry
