use Rattle.log_facts.proofs.TheStarts.{first_table_starts}
use Rattle.log_facts.proofs.laws.law_first_table_starts.Goals as goal

pub returns : goal.returns
returns c = first_table_starts
