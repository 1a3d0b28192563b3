use Rattle.std.proofs.Common.{◌∙◌, ◌<◌, sym, ap, subst}
use Rattle.key_hash.specs.Placing.{placed}
use Rattle.call_texts.specs.State.{CallEnd, Stage}
use Rattle.call_texts.specs.Text.{part_of}
use Rattle.call_machine.specs.CallRest.{call_rest}
use Rattle.world_texts.specs.Texts.{whole, questions_of}
use Rattle.world_texts.proofs.Wholes.{told_whole, told_fewer}
use Rattle.world_texts.proofs.Opening.{part_asks}
use Rattle.running_client.proofs.Texts.{is_there}
use Rattle.running_client.proofs.begin.settle.Goals as goal

pub loop-key-preserved : goal.loop-key-preserved
loop-key-preserved g c =
    let hash = placed (g.P.Placer.listed c.args.placer.now) in
    let p = call_rest c.loop-key.machine in
    let asks = sym c.in-Some.ensures in
    ap (whole part_of hash) (c.told.ensures.rest (is_there _ _ asks)) ∙ told_whole Stage CallEnd part_of part_asks hash p c.in-Some.key c.hash.result asks c.hash.ensures.value ∙ c.loop-key.invariant

pub loop-key-smaller : goal.loop-key-smaller
loop-key-smaller g c =
    let hash = placed (g.P.Placer.listed c.args.placer.now) in
    let p = call_rest c.loop-key.machine in
    let asks = sym c.in-Some.ensures in
    subst (λ q. questions_of hash q < questions_of hash p) (sym (c.told.ensures.rest (is_there _ _ asks))) (told_fewer Stage CallEnd part_of part_asks hash p c.in-Some.key c.hash.result asks c.hash.ensures.value)
