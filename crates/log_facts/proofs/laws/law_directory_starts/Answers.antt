use Rattle.log_facts.proofs.TheStarts.{directory_starts}
use Rattle.log_facts.proofs.laws.law_directory_starts.Goals as goal

pub returns : goal.returns
returns c = directory_starts
