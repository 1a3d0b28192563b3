use Rattle.post_laws.proofs.Whole.{look_is_safe}
use Rattle.post_laws.proofs.laws.law_posted_look_safe.Goals as goal

pub returns : goal.returns
returns c = look_is_safe
