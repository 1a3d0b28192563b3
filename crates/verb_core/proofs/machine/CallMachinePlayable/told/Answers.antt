use Rattle.std.proofs.Common.{◌∙◌, ◌<◌, ap, sym, subst}
use Rattle.call_texts.specs.State.{CallEnd, Stage}
use Rattle.call_texts.specs.Text.{part_of}
use Rattle.call_machine.specs.CallRest.{call_rest}
use Rattle.world_texts.specs.Texts.{whole, questions_of}
use Rattle.world_texts.proofs.Wholes.{told_whole, told_fewer}
use Rattle.world_texts.proofs.Opening.{part_asks}
use Rattle.verb_core.proofs.machine.CallMachinePlayable.told.Goals as goal

pub returns-clause-text : goal.returns-clause-text
returns-clause-text c = λ h key e same. ap (whole part_of h) (c.told.ensures.rest c.requires) ∙ told_whole Stage CallEnd part_of part_asks h (call_rest c.args.self.now) key c.args.hash e same

pub returns-clause-questions : goal.returns-clause-questions
returns-clause-questions c = λ h key e same. subst (λ q. questions_of h q < questions_of h (call_rest c.args.self.now)) (sym (c.told.ensures.rest c.requires)) (told_fewer Stage CallEnd part_of part_asks h (call_rest c.args.self.now) key c.args.hash e same)
