use Rattle.move_laws.proofs.Whole.{each_move_is_safe}
use Rattle.move_laws.proofs.laws.law_move_safe.Goals as goal

-- src/laws.rt
pub returns : goal.returns
returns c = each_move_is_safe
