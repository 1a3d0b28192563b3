use Rattle.std.proofs.Common.{◌≡◌}
use Rattle.client_tests.proofs.tests.clients.jobs.Given as goal

abbrev pub invariant-loop-number : goal.invariant-loop-number
invariant-loop-number l = l.seats.home ≡ l.memory
