use Rattle.std.proofs.Common.{length, ap, ◌∙◌}
use Rattle.map_model.specs.Machine.{map_at}
use Rattle.verb_core.proofs.Maps.{map-pending}
use Rattle.verb_core.proofs.any_world.map_of.Goals as goal

pub returns-in_ok-apply-in-Some : goal.returns-in_ok-apply-in-Some
returns-in_ok-apply-in-Some c =
    let all = c.changes-changes.ensures in
    map-pending c.args.timeline.now c.args.pending.now c.in-Some.change c.in_ok-map.map c.apply.new.self c.in-Some.is
    (c.in_ok-map.ensures ∙ (λ i. map_at (all i) ((c.len.ensures.value ∙ ap length all) i))) c.in_ok-apply-in-Some.ensures.ok
