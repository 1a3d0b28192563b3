use Rattle.call_bounds.proofs.Passes.{passes_cost}
use Rattle.call_bounds.proofs.laws.law_passes_cost.Goals as goal

pub returns : goal.returns
returns c = passes_cost
