use Rattle.std.proofs.Common.{◌≡◌}
use Rattle.verb_log.proofs.tests.play.Given as goal

abbrev pub invariant-loop-client : goal.invariant-loop-client
invariant-loop-client g l = l.log.geometry ≡ l.geometry
