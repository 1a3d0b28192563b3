use Rattle.call_bounds.proofs.Takings.{takings_cost}
use Rattle.call_bounds.proofs.laws.law_takings_cost.Goals as goal

pub returns : goal.returns
returns c = takings_cost
