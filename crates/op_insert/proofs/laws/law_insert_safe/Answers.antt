use Rattle.op_insert.proofs.Whole.{insert_is_safe}
use Rattle.op_insert.proofs.laws.law_insert_safe.Goals as goal

pub returns : goal.returns
returns c = insert_is_safe
