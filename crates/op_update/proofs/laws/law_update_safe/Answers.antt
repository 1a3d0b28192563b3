use Rattle.op_update.proofs.Whole.{update_is_safe}
use Rattle.op_update.proofs.laws.law_update_safe.Goals as goal

pub returns : goal.returns
returns c = update_is_safe
