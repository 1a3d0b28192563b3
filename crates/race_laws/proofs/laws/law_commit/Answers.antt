use Rattle.race_laws.proofs.TheLaws.{commit_law}
use Rattle.race_laws.proofs.laws.law_commit.Goals as goal

pub returns : goal.returns
returns c = commit_law
