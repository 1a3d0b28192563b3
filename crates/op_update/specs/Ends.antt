-- Whether an update has ended, by where it stands.
use Rattle.std.specs.Prelude.{Bool, true, false}
use Rattle.op_update.specs.declared.at.At.{At}
use Rattle.op_update.specs.declared.at.At.TheVariants.{Looking, Taking, Settle, Replace, Updated, Missing, Again, NoBlock}

abbrev pub has_ended : At → Bool
has_ended Looking = false
has_ended Taking = false
has_ended Settle = false
has_ended Replace = false
has_ended Updated = true
has_ended Missing = true
has_ended Again = true
has_ended NoBlock = true
