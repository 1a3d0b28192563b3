use Rattle.op_search.proofs.Whole.{search_is_safe}
use Rattle.op_search.proofs.laws.law_search_safe.Goals as goal

pub returns : goal.returns
returns c = search_is_safe
