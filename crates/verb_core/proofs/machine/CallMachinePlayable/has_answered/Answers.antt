use Rattle.std.proofs.Common.{◌∙◌, ap, sym}
use Rattle.std.specs.Prelude.{Option, is_some}
use Rattle.call_texts.specs.State.{CallEnd}
use Rattle.call_texts.specs.Text.{part_of}
use Rattle.call_machine.specs.CallRest.{call_rest}
use Rattle.world_texts.proofs.Wholes.{whole_answer}
use Rattle.verb_core.proofs.machine.CallMachinePlayable.has_answered.Goals as goal

pub returns : goal.returns
returns c = λ h. c.has_answered.ensures.answer ∙ ap (λ (o : Option CallEnd). is_some o) (sym (whole_answer part_of h (call_rest c.args.self.now) c.requires.settled c.keep_acting.ensures))
