use Rattle.std.proofs.Common.{◌+◌, drop, take, ap, sym, ◌∙◌, List}
use Rattle.kv_block.specs.declared.changes.Change.{Change}
use Rattle.map_model.specs.Machine.{map_after}
use Rattle.item_list.proofs.Pieces.{drop-step, slice_get-front}
use Rattle.map_model.proofs.machine.map_at.Goals as goal

pub loop-i-preserved : goal.loop-i-preserved
loop-i-preserved c =
    let front = take c.args.n c.args.changes.now.items in
    let next = drop-step front c.loop-i.i c.get.result (slice_get-front c.args.changes.now.items c.loop-i.i c.args.n c.get.result c.loop-i-test.true c.get.ensures) in
    ap (λ m. map_after m (drop (c.loop-i.i + 1) front)) c.in_ok-apply.ensures.ok
    ∙ sym (ap (λ (cs : List Change). map_after c.loop-i.map cs) next)
    ∙ c.loop-i.invariant
