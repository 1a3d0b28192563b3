use Rattle.call_laws.proofs.Moments.{holds_at_moments}
use Rattle.call_laws.proofs.laws.law_holds_at_moments.Goals as goal

pub returns : goal.returns
returns c = holds_at_moments
