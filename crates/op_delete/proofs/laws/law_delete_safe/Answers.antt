use Rattle.op_delete.proofs.Whole.{delete_is_safe}
use Rattle.op_delete.proofs.laws.law_delete_safe.Goals as goal

pub returns : goal.returns
returns c = delete_is_safe
