use Rattle.image_laws.proofs.Holders.{answers_are_holders}
use Rattle.image_laws.proofs.laws.law_answers_are_holders.Goals as goal

pub returns : goal.returns
returns c = answers_are_holders
