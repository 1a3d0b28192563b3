use Rattle.std.proofs.Common.{◌≡◌}
use Rattle.client_bench.proofs.running.jobs.Given as goal

abbrev pub invariant-loop-thread : goal.invariant-loop-thread
invariant-loop-thread l = l.seats.home ≡ l.memory
