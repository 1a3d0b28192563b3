use Rattle.race_laws.proofs.TheLaws.{absence}
use Rattle.post_laws.proofs.laws.law_spread_absence.Goals as goal

pub returns : goal.returns
returns c = λ s log l n m low high key. (absence s log l n m low high key).1
