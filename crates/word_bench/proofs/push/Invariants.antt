use Rattle.std.proofs.Common.{◌≡◌}
use Rattle.word_bench.proofs.push.Given as goal

abbrev pub invariant-loop-n : goal.invariant-loop-n
invariant-loop-n l = l.log.geometry.words ≡ 65536
