use Rattle.std.proofs.Common.{◌<◌}
use Rattle.word_bench.proofs.read_vec.Given as goal

abbrev pub invariant-loop : goal.invariant-loop
invariant-loop l = l.at < 65536
