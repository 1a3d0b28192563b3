use Rattle.std.proofs.Common.{◌≡◌}
use Rattle.pass_bench.proofs.read_words.Given as goal

-- the memory keeps its size
abbrev pub invariant-loop-word : goal.invariant-loop-word
invariant-loop-word l = l.node.log.geometry ≡ l.fn.node.log.geometry
