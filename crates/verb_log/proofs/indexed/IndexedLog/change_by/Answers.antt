use Rattle.std.proofs.Common.{◌≡◌, subst}
use Rattle.std.specs.Option.{option_to_list}
use Rattle.node_words.specs.declared.geometry.Geometry.{Geometry}
use Rattle.verb_log.specs.declared.role.Role.TheVariants.{Slot}
use Rattle.verb_log.specs.Standings.{judged_there}
use Rattle.verb_log.proofs.ChangeRows.{change_there}
use Rattle.verb_log.proofs.indexed.IndexedLog.change_by.Goals as goal

pub returns-in-Slot : goal.returns-in-Slot
returns-in-Slot c =
    change_there c.args.self.now.geometry c.args.self.now.entries c.args.n c.args.words.now c.entry-entry.result (option_to_list c.slot_change.result) c.standing.result
    c.requires.words c.entry-entry.ensures.there c.standing.ensures.standing
    (subst (λ (g : Geometry). Slot ≡ judged_there g c.standing.result c.entry-entry.result.at) c.geometry.ensures c.in-Slot.ensures) c.slot_change.ensures
