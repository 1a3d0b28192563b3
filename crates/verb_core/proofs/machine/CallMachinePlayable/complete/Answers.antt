use Rattle.std.proofs.Common.{◌∙◌, ap}
use Rattle.call_texts.specs.State.{CallEnd, Stage}
use Rattle.call_texts.specs.Text.{part_of}
use Rattle.call_machine.specs.CallRest.{call_rest}
use Rattle.world_texts.specs.Texts.{whole}
use Rattle.world_texts.proofs.Wholes.{some_verb, fed_whole}
use Rattle.world_texts.proofs.Opening.{part_asks}
use Rattle.verb_core.proofs.machine.CallMachinePlayable.complete.Goals as goal

pub feed-requires : goal.feed-requires
feed-requires c = some_verb part_of c.requires.some.0 (call_rest c.args.self.now) c.requires.settled c.keep_acting.ensures c.requires.some.1

pub returns : goal.returns
returns c = λ h.
    let p = call_rest c.args.self.now in
    ap (whole part_of h) c.feed.ensures.rest ∙ fed_whole Stage CallEnd part_of part_asks h p c.args.word (some_verb part_of c.requires.some.0 p c.requires.settled c.keep_acting.ensures c.requires.some.1)
