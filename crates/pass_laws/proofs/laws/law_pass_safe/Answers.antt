use Rattle.pass_laws.proofs.Whole.{pass_is_safe}
use Rattle.pass_laws.proofs.laws.law_pass_safe.Goals as goal

pub returns : goal.returns
returns c = pass_is_safe
