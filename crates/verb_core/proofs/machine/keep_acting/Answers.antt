use Rattle.verb_core.proofs.Replies.{acts_on}
use Rattle.verbs.specs.Programs.{answer_of, next_act}
use Rattle.call_machine.specs.CallRest.{call_rest}
use Rattle.verb_core.proofs.machine.keep_acting.Goals as goal

pub returns : goal.returns
returns c = acts_on (answer_of (call_rest c.args.machine.now)) (next_act (call_rest c.args.machine.now)) c.has_answered.result c.has_answered.ensures.answer c.has_answered.ensures.act
