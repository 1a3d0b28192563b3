use Rattle.running_client.proofs.Fronts.{met_is_seen}
use Rattle.running_client.proofs.laws.law_met_is_seen.Goals as goal

pub returns : goal.returns
returns c = met_is_seen
