use Rattle.run_laws.proofs.Beside.{changes_are_asked}
use Rattle.run_laws.proofs.laws.law_changes_are_asked.Goals as goal

pub returns : goal.returns
returns c = changes_are_asked
