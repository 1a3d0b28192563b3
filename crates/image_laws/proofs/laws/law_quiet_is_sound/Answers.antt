use Rattle.image_laws.proofs.Holders.{quiet_is_sound}
use Rattle.image_laws.proofs.laws.law_quiet_is_sound.Goals as goal

pub returns : goal.returns
returns c = quiet_is_sound
