use Rattle.race_laws.proofs.TheLaws.{clear_places}
use Rattle.race_laws.proofs.laws.law_clear_places.Goals as goal

pub returns : goal.returns
returns c = clear_places
