use Rattle.std.proofs.Common.{◌∙◌, ap}
use Rattle.op_insert.specs.Rest.{choices}
use Rattle.op_insert.proofs.at.At.first_choice.Goals as goal

pub returns-clause-rest : goal.returns-clause-rest
returns-clause-rest c = c.choice.ensures.rest ∙ ap (λ f. choices c.args.work.now 28 f) c.free.ensures
