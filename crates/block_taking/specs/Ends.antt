-- How a taking has ended, by where it stands.
use Rattle.std.specs.Prelude.{◌≡◌, Bool, true, false, IsSome, refl}
use Rattle.verbs.specs.Programs.{next_act}
use Rattle.block_taking.specs.declared.taking.Taking.{Taking}
use Rattle.block_taking.specs.declared.progress.Progress.{Progress}
use Rattle.block_taking.specs.declared.at.At.{At}
use Rattle.block_taking.specs.declared.at.At.TheVariants.{Read, Area, Alone, Write, Taken, NoBlock, Spent}
use Rattle.block_taking.specs.Rest.{at_rest}

abbrev pub has_ended : At → Bool
has_ended Taken = true
has_ended NoBlock = true
has_ended Spent = true
has_ended _ = false

abbrev pub is_taken : At → Bool
is_taken Taken = true
is_taken _ = false

abbrev pub is_full : At → Bool
is_full NoBlock = true
is_full _ = false

-- a taking that has not ended has a verb
pub waits : (t : Taking) (s : Progress) (at : At) → has_ended at ≡ false → IsSome (next_act (at_rest t s at))
waits t s Read e = refl
waits t s Area e = refl
waits t s Alone e = refl
waits t s Write e = refl
waits t s Taken e = absurd (cc)
waits t s NoBlock e = absurd (cc)
waits t s Spent e = absurd (cc)

pub ruleset ends = (waits)
