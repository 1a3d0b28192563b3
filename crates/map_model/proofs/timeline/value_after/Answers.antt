use Rattle.std.proofs.Common.{◌∙◌}
use Rattle.map_model.proofs.PlacesKept.{latest_read}
use Rattle.map_model.proofs.timeline.value_after.Goals as goal

pub returns-in-Some : goal.returns-in-Some
returns-in-Some c = c.value_at.ensures ∙ latest_read c.args.changes.now.items c.args.places.now c.in-Some.place.now c.in-Some.ensures.value
