use Rattle.run_laws.proofs.Headline.{headline_for_run}
use Rattle.run_laws.proofs.laws.law_headline_for_run.Goals as goal

pub returns : goal.returns
returns c = headline_for_run
