use Rattle.whole_calls.proofs.Resizing.{resize_is_safe_call}
use Rattle.whole_calls.proofs.laws.law_resize_call.Goals as goal

pub returns : goal.returns
returns c = resize_is_safe_call
