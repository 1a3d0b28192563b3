use Rattle.begin_laws.proofs.Whole.{begin_is_safe}
use Rattle.begin_laws.proofs.laws.law_begin_safe.Goals as goal

-- src/laws.rt
pub returns : goal.returns
returns c = begin_is_safe
