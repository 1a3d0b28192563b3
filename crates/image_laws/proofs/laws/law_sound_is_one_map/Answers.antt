use Rattle.image_laws.proofs.OneMap.{sound_is_one_map}
use Rattle.image_laws.proofs.laws.law_sound_is_one_map.Goals as goal

pub returns : goal.returns
returns c = sound_is_one_map
