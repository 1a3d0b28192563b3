use Rattle.race_laws.proofs.TheLaws.{one_holder}
use Rattle.race_laws.proofs.laws.law_one_holder.Goals as goal

pub returns : goal.returns
returns c = one_holder
