use Rattle.race_laws.proofs.TheLaws.{absence}
use Rattle.race_laws.proofs.laws.law_absence.Goals as goal

pub returns : goal.returns
returns c = absence
