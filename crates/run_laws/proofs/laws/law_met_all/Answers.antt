use Rattle.run_laws.proofs.Fronts.{met_all}
use Rattle.run_laws.proofs.laws.law_met_all.Goals as goal

pub returns : goal.returns
returns c = met_all
