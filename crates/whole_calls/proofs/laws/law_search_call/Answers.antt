use Rattle.whole_calls.proofs.Plain.{search_is_safe}
use Rattle.whole_calls.proofs.laws.law_search_call.Goals as goal

pub returns : goal.returns
returns c = search_is_safe
