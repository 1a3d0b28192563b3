use Rattle.race_laws.proofs.TheLaws.{presence}
use Rattle.race_laws.proofs.laws.law_presence.Goals as goal

pub returns : goal.returns
returns c = presence
