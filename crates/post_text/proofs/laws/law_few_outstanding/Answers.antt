use Rattle.post_text.proofs.Counts.{is_few}
use Rattle.post_text.proofs.laws.law_few_outstanding.Goals as goal

pub returns : goal.returns
returns c = is_few
