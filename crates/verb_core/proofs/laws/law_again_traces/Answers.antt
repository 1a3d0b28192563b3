use Rattle.verb_core.proofs.Losing.{again_traces}
use Rattle.verb_core.proofs.laws.law_again_traces.Goals as goal

pub returns : goal.returns
returns g c = again_traces g.M.Playable.kind c.law_safe.ensures.losses
