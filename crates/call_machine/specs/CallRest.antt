-- What is left of a call, and who makes it.
use Rattle.call_texts.specs.State.{Caller}
use Rattle.call_machine.specs.declared.call.CallMachine.{CallMachine}
use Rattle.call_machine.specs.Tasks.{caller_in}
use Rattle.call_machine.specs.Rest.{Left, rest_of}

unfoldable pub call_rest : CallMachine → Left
call_rest c = rest_of c.task c.machines c.at

unfoldable pub call_of : CallMachine → Caller
call_of c = caller_in c.task
