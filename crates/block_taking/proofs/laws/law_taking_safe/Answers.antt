use Rattle.block_taking.proofs.Whole.{taking_is_safe}
use Rattle.block_taking.proofs.laws.law_taking_safe.Goals as goal

pub returns : goal.returns
returns c = taking_is_safe
