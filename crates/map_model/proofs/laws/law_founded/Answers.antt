use Rattle.map_model.proofs.Bridge.{legal_from_founded}
use Rattle.map_model.proofs.laws.law_founded.Goals as goal

pub returns : goal.returns
returns c = legal_from_founded
