use Rattle.log_facts.proofs.Lasting.{seen_again}
use Rattle.log_facts.proofs.laws.law_seen_again.Goals as goal

pub returns : goal.returns
returns c = seen_again
