use Rattle.std.proofs.Common.{◌≡◌}
use Rattle.race_laws.proofs.tests.logged.Given as goal

abbrev pub invariant-loop-client : goal.invariant-loop-client
invariant-loop-client g l = l.log.geometry ≡ l.geometry

abbrev pub invariant-loop-n : goal.invariant-loop-n
invariant-loop-n g l = l.log.geometry ≡ l.fn.geometry
