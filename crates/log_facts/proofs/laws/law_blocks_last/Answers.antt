use Rattle.log_facts.proofs.Lasting.{blocks_last}
use Rattle.log_facts.proofs.laws.law_blocks_last.Goals as goal

pub returns : goal.returns
returns c = blocks_last
