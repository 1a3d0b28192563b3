-- What an audit tells.
use Rattle.std.specs.Prelude.{◌≡◌}
use Rattle.race_laws.specs.Setting.{Setting}
use Rattle.image_laws.specs.Walk.{Words, WalkWord, address_of}
use Rattle.image_laws.specs.Sound.{IsSound, FirstBad}
use Rattle.image_laws.specs.Answers.{map_held}
use Rattle.image_audit.specs.declared.audit.Audit.{Audit}
use Rattle.image_audit.specs.declared.audit.Audit.TheVariants.{Sound, Bad}

-- the words are sound, and this is the map of their live slots; or this is the address of the first word of the walk that breaks its
-- rule
abbrev pub IsAudit : Setting → Words → Audit → Type 0
IsAudit s w (Sound pairs) = IsSound s w × (pairs ≡ map_held s w)
IsAudit s w (Bad at) = (x : WalkWord) × FirstBad s w x × (at ≡ address_of x)
