use Rattle.std.proofs.Common.{ap, ◌∙◌}
use Rattle.std.specs.FinMap as map
use Rattle.map_model.proofs.Kept.{one_removed}
use Rattle.map_model.proofs.machine.MapMachine.remove.Goals as goal

pub returns : goal.returns
returns c =
    one_removed c.self.inside.entries.entries c.remove.new.self.entries c.args.key.now c.remove.ensures.updates.0
    ∙ ap (λ m. map.remove m c.args.key.now) c.self.view_is
