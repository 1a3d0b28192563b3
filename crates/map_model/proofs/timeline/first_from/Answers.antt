use Rattle.map_model.specs.Machine.{key_of}
use Rattle.map_model.proofs.FirstMoment.{steady_value, first_here}
use Rattle.map_model.proofs.timeline.first_from.Goals as goal

pub returns-then-gives : goal.returns-then-gives
returns-then-gives c =
    let i = c.loop-place.invariant in
    first_here c.args.changes.now.items c.args.lo c.loop-place.start c.args.call.now c.args.reply.now c.loop-place.value i.low i.high i.before
    (steady_value c.args.changes.now.items (key_of c.args.call.now) c.loop-place.value c.loop-place.start _ i.high i.steady)
    (c.gives.ensures.0 c.if-gives.true)
