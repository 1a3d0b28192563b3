use Rattle.image_laws.proofs.OpeningQuiet.{opening_is_quiet}
use Rattle.image_laws.proofs.laws.law_opening_is_quiet.Goals as goal

pub returns : goal.returns
returns c = opening_is_quiet
