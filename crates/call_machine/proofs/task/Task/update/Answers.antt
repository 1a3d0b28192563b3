use Rattle.std.proofs.Common.{ap}
use Rattle.verbs.specs.Programs.{bind}
use Rattle.call_machine.specs.Rest.{on_update}
use Rattle.call_machine.proofs.task.Task.update.Goals as goal

pub returns-clause-rest : goal.returns-clause-rest
returns-clause-rest c = ap (λ p. bind p (on_update c.args.self.now)) c.begin.ensures.rest
