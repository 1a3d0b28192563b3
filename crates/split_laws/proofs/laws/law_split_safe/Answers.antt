use Rattle.split_laws.proofs.Whole.{split_is_safe}
use Rattle.split_laws.proofs.laws.law_split_safe.Goals as goal

-- src/laws.rt
pub returns : goal.returns
returns c = split_is_safe
