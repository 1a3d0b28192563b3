use Rattle.whole_calls.proofs.Plain.{delete_is_safe_call}
use Rattle.whole_calls.proofs.laws.law_delete_call.Goals as goal

pub returns : goal.returns
returns c = delete_is_safe_call
