use Rattle.run_laws.proofs.Beside.{headline_beside}
use Rattle.run_laws.proofs.laws.law_headline_beside.Goals as goal

pub returns : goal.returns
returns c = headline_beside
