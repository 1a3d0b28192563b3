use Rattle.call_bounds.proofs.Fitting.{parts_fit}
use Rattle.call_bounds.proofs.laws.law_parts_fit.Goals as goal

pub returns : goal.returns
returns c = parts_fit
