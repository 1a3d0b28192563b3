use Rattle.whole_calls.proofs.Plain.{update_is_safe_call}
use Rattle.whole_calls.proofs.laws.law_update_call.Goals as goal

pub returns : goal.returns
returns c = update_is_safe_call
