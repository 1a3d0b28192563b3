use Rattle.race_laws.proofs.TheLaws.{holder_place}
use Rattle.race_laws.proofs.laws.law_holder_place.Goals as goal

pub returns : goal.returns
returns c = holder_place
