use Rattle.verb_log.proofs.Linked.{roles_stay}
use Rattle.verb_log.proofs.laws.law_roles_stay.Goals as goal

pub returns : goal.returns
returns c = roles_stay
