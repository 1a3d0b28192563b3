use Rattle.map_model.proofs.AnyOrder.{founded_any_order}
use Rattle.map_model.proofs.laws.law_any_order.Goals as goal

pub returns : goal.returns
returns c = founded_any_order
