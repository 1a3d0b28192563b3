use Rattle.map_model.proofs.CellAndOrder.{seen_stands_before}
use Rattle.map_model.proofs.laws.law_order.Goals as goal

pub returns : goal.returns
returns c = seen_stands_before
