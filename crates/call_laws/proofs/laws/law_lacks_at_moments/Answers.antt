use Rattle.call_laws.proofs.Moments.{lacks_at_moments}
use Rattle.call_laws.proofs.laws.law_lacks_at_moments.Goals as goal

pub returns : goal.returns
returns c = lacks_at_moments
