use Rattle.std.proofs.Common.{◌∙◌, ap, sym}
use Rattle.std.specs.Prelude.{None}
use Rattle.verbs.specs.Programs.{bind}
use Rattle.call_texts.specs.Text.{resize_call}
use Rattle.call_machine.specs.Tasks.{caller_in}
use Rattle.call_machine.specs.Rest.{on_split}
use Rattle.call_machine.proofs.task.Task.resize.Goals as goal

pub returns-in-Some-clause-rest : goal.returns-in-Some-clause-rest
returns-in-Some-clause-rest c =
    let t = c.args.self.now in
    ap (λ p. bind p (on_split t None)) c.gone_on-machines.ensures.rest ∙ ap (λ o. resize_call (caller_in t) t.key t.start t.area o) (sym c.in-Some.is)
