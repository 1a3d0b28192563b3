use Rattle.verb_core.proofs.machine.CallMachinePlayable.law_safe.Goals as goal

pub returns : goal.returns
returns c = c.law_calls_in_worlds.ensures
