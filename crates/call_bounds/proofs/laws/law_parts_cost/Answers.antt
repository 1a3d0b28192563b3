use Rattle.call_bounds.proofs.Parts.{parts_cost}
use Rattle.call_bounds.proofs.laws.law_parts_cost.Goals as goal

pub returns : goal.returns
returns c = parts_cost
