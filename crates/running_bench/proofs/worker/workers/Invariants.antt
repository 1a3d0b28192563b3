use Rattle.std.proofs.Common.{◌≡◌}
use Rattle.running_bench.proofs.worker.workers.Given as goal

abbrev pub invariant-loop-n : goal.invariant-loop-n
invariant-loop-n l = l.seats.home ≡ l.memory
