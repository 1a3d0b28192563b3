use Rattle.std.proofs.Common.{◌∙◌, ap}
use Rattle.std.specs.Prelude.{Option, is_some}
use Rattle.verb_log.specs.declared.entry.Verb.{Verb}
use Rattle.verbs.specs.Programs.{next_act}
use Rattle.call_machine.specs.CallRest.{call_rest}
use Rattle.verb_core.proofs.Replies.{settled_by}
use Rattle.verb_core.proofs.machine.CallMachinePlayable.is_settled.Goals as goal

pub returns : goal.returns
returns c = c.wants_no_hash.ensures ∙ settled_by (next_act (call_rest c.args.self.now)) c.is_some.result c.has_answered.result (c.is_some.ensures ∙ ap (λ (o : Option Verb). is_some o) c.next.ensures) c.has_answered.ensures.act
