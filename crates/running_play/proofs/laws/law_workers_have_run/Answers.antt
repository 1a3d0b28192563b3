use Rattle.running_play.proofs.Giving.{workers_have_run}
use Rattle.running_play.proofs.laws.law_workers_have_run.Goals as goal

pub returns : goal.returns
returns c = workers_have_run
