use Rattle.std.proofs.Common.{◌≡◌, ◌<◌}
use Rattle.word_bench.proofs.read_node.Given as goal

abbrev pub invariant-loop : goal.invariant-loop
invariant-loop l = (l.node.log.geometry.words ≡ 65536) × (l.at < 65536)
