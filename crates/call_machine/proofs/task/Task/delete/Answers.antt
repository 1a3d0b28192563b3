use Rattle.std.proofs.Common.{ap}
use Rattle.verbs.specs.Programs.{bind}
use Rattle.call_machine.specs.Rest.{on_delete}
use Rattle.call_machine.proofs.task.Task.delete.Goals as goal

pub returns-clause-rest : goal.returns-clause-rest
returns-clause-rest c = ap (λ p. bind p (on_delete c.args.self.now)) c.begin.ensures.rest
