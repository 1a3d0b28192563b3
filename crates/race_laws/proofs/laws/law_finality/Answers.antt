use Rattle.race_laws.proofs.TheLaws.{finality}
use Rattle.race_laws.proofs.laws.law_finality.Goals as goal

pub returns : goal.returns
returns c = finality
