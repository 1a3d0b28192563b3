use Rattle.map_model.proofs.CellAndOrder.{each_key_is_cell}
use Rattle.map_model.proofs.laws.law_each_key.Goals as goal

pub returns : goal.returns
returns c = each_key_is_cell
