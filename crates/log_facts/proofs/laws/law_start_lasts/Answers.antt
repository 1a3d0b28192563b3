use Rattle.log_facts.proofs.TheStarts.{start_lasts}
use Rattle.log_facts.proofs.laws.law_start_lasts.Goals as goal

pub returns : goal.returns
returns c = start_lasts
