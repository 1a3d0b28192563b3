use Rattle.std.proofs.Common.{sym, ap, ◌∙◌}
use Rattle.std.specs.FinMap as map
use Rattle.map_model.proofs.Kept.{entries_of_sorted}
use Rattle.map_model.proofs.machine.MapMachine.pairs.Goals as goal

pub returns : goal.returns
returns c = c.iter.ensures.rest ∙ sym (entries_of_sorted c.self.inside.entries.entries c.iter.ensures.ordered) ∙ ap map.entries c.self.view_is
