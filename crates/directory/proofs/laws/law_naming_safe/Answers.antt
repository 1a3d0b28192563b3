use Rattle.directory.proofs.Whole.{naming_is_safe}
use Rattle.directory.proofs.laws.law_naming_safe.Goals as goal

pub returns : goal.returns
returns c = naming_is_safe
