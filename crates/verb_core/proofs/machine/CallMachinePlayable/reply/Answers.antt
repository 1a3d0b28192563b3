use Rattle.std.proofs.Common.{◌∙◌, sym, subst}
use Rattle.std.specs.Prelude.{IsSome}
use Rattle.verbs.specs.Programs.{answer_of}
use Rattle.call_texts.specs.Text.{part_of}
use Rattle.call_machine.specs.CallRest.{call_rest}
use Rattle.world_texts.proofs.Wholes.{whole_answer}
use Rattle.verb_core.proofs.Replies.{reply_in, no_reply}
use Rattle.verb_core.proofs.machine.CallMachinePlayable.reply.Goals as goal

pub unreachable-requires : goal.unreachable-requires
unreachable-requires c =
    let p = call_rest c.args.self.now in
    no_reply (answer_of p) (sym c.in_default.is ∙ c.answer.ensures) (subst (λ o. IsSome o) (whole_answer part_of c.requires.ended.0 p c.requires.settled c.keep_acting.ensures) c.requires.ended.1)

pub returns : goal.returns
returns c = λ h e is. let p = call_rest c.args.self.now in reply_in (answer_of p) c.in-Some.answer e c.in-Some.ensures (sym (whole_answer part_of h p c.requires.settled c.keep_acting.ensures) ∙ is)
