use Rattle.std.proofs.Common.{◌∙◌}
use Rattle.key_hash.specs.Placing.{placed}
use Rattle.call_machine.specs.CallRest.{call_rest}
use Rattle.running_client.proofs.Texts.{begun_text}
use Rattle.running_client.proofs.begin.begin.Goals as goal

pub returns-clause-text : goal.returns-clause-text
returns-clause-text g c =
    let hash = placed (g.P.Placer.listed c.args.placer.now) in
    c.settle.ensures.text ∙ begun_text hash c.args.state.now c.args.call.now (call_rest c.start-machine.result) c.hash-hash.result c.key.result c.start-machine.ensures.rest c.hash-hash.ensures.value c.key.ensures
