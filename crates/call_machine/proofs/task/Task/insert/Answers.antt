use Rattle.std.proofs.Common.{ap, refl}
use Rattle.verbs.specs.Programs.{bind}
use Rattle.op_insert.specs.InsertRest.{start_of}
use Rattle.call_machine.specs.Rest.{on_insert}
use Rattle.call_machine.specs.Spare.{InsertDone}
use Rattle.call_machine.proofs.Parts.{ends-acting}
use Rattle.call_machine.proofs.Inserts.{insert-spares}
use Rattle.call_machine.proofs.task.Task.insert.Goals as goal

pub returns-clause-rest : goal.returns-clause-rest
returns-clause-rest c = ap (λ p. bind p (on_insert c.args.self.now)) c.begin.ensures.rest

pub returns-clause-fits : goal.returns-clause-fits
returns-clause-fits c =
    let t = c.args.self.now in
    (c.begin.ensures.fits, insert-spares (start_of t.geometry t.client t.hash t.key t.value t.left) t.start t.kept t.area t.left _ c.begin.ensures.rest refl c.requires, ends-acting InsertDone _ c.begin.ensures.waits)
