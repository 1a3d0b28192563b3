use Rattle.run_laws.proofs.Looks.{last_looks}
use Rattle.run_laws.proofs.laws.law_last_looks.Goals as goal

pub returns : goal.returns
returns c = last_looks
