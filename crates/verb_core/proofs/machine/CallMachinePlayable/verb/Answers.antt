use Rattle.std.proofs.Common.{◌∙◌, sym}
use Rattle.verbs.specs.Programs.{next_verb}
use Rattle.call_texts.specs.Text.{part_of}
use Rattle.call_machine.specs.CallRest.{call_rest}
use Rattle.world_texts.specs.Texts.{whole}
use Rattle.world_texts.proofs.Wholes.{some_verb, whole_verb, one_chosen, not_some}
use Rattle.verb_core.proofs.machine.CallMachinePlayable.verb.Goals as goal

pub unreachable-requires : goal.unreachable-requires
unreachable-requires c =
    let p = call_rest c.args.self.now in
    not_some (next_verb p) (sym c.next.ensures ∙ c.in_default.is) (some_verb part_of c.requires.some.0 p c.requires.settled c.keep_acting.ensures c.requires.some.1)

pub returns : goal.returns
returns c = λ h. let p = call_rest c.args.self.now in one_chosen (next_verb (whole part_of h p)) c.in-Some.verb c.args._choice (whole_verb part_of h p c.requires.settled c.keep_acting.ensures ∙ sym c.in-Some.ensures)
