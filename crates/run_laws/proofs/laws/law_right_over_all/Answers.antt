use Rattle.run_laws.proofs.Living.{right_over_all}
use Rattle.run_laws.proofs.laws.law_right_over_all.Goals as goal

pub returns : goal.returns
returns c = right_over_all
