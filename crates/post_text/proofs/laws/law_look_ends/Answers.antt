use Rattle.post_text.proofs.Counts.{is_short}
use Rattle.post_text.proofs.laws.law_look_ends.Goals as goal

pub returns : goal.returns
returns c = is_short
