use Rattle.whole_calls.proofs.Inserting.{insert_is_safe_call}
use Rattle.whole_calls.proofs.laws.law_insert_call.Goals as goal

pub returns : goal.returns
returns c = insert_is_safe_call
