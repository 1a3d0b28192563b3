use Rattle.std.proofs.Common.{◌∙◌, ap, sym, length}
use Rattle.std.specs.Option.{option_to_list}
use Rattle.call_texts.specs.Text.{part_of}
use Rattle.call_machine.specs.CallRest.{call_rest}
use Rattle.world_texts.proofs.Wholes.{whole_verb}
use Rattle.verb_core.proofs.machine.CallMachinePlayable.outstanding.Goals as goal

pub returns-in-Some : goal.returns-in-Some
returns-in-Some c = λ h. ap (λ o. length (option_to_list o)) (sym c.in-Some.is ∙ c.next.ensures ∙ sym (whole_verb part_of h (call_rest c.args.self.now) c.requires.settled c.keep_acting.ensures))

pub returns-in-None : goal.returns-in-None
returns-in-None c = λ h. ap (λ o. length (option_to_list o)) (sym c.in-None.is ∙ c.next.ensures ∙ sym (whole_verb part_of h (call_rest c.args.self.now) c.requires.settled c.keep_acting.ensures))
