use Rattle.call_bounds.proofs.Parts.{inserts_cost}
use Rattle.call_bounds.proofs.laws.law_inserts_cost.Goals as goal

pub returns : goal.returns
returns c = inserts_cost
