-- The machine of whole calls, as a world plays it.
use Rattle.call_machine.specs.declared.call.CallMachine.{CallMachine}
use Rattle.call_machine.specs.CallRest.{call_rest}
use Rattle.world_texts.specs.Sorts.{Kind}
use Rattle.world_texts.specs.Texts.{verb_by_verb}

abbrev pub call_kind : Kind CallMachine
call_kind = verb_by_verb call_rest
