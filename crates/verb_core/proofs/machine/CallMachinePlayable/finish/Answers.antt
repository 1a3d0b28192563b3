use Rattle.std.proofs.Common.{◌∙◌, sym, subst}
use Rattle.std.specs.Prelude.{IsSome}
use Rattle.call_texts.specs.Text.{part_of}
use Rattle.call_machine.specs.CallRest.{call_rest}
use Rattle.world_texts.proofs.Wholes.{whole_answer}
use Rattle.verb_core.proofs.machine.CallMachinePlayable.finish.Goals as goal

pub finish-requires : goal.finish-requires
finish-requires c = subst (λ o. IsSome o) (whole_answer part_of c.requires.ended.0 (call_rest c.args.self) c.requires.settled c.keep_acting.ensures) c.requires.ended.1

pub returns : goal.returns
returns c = λ h e is. c.finish.ensures e (sym (whole_answer part_of h (call_rest c.args.self) c.requires.settled c.keep_acting.ensures) ∙ is)
