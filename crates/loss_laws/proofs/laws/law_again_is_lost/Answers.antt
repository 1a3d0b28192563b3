use Rattle.loss_laws.proofs.Calls.{begin-loses, part-loses}
use Rattle.loss_laws.proofs.laws.law_again_is_lost.Goals as goal

pub returns : goal.returns
returns c = record { begun = begin-loses; part = part-loses }
