-- Whether a delete has ended, by where it stands.
use Rattle.std.specs.Prelude.{Bool, true, false}
use Rattle.op_delete.specs.declared.at.At.{At}
use Rattle.op_delete.specs.declared.at.At.TheVariants.{Looking, Settle, Remove, Deleted, Missing, Again}

abbrev pub has_ended : At → Bool
has_ended Looking = false
has_ended Settle = false
has_ended Remove = false
has_ended Deleted = true
has_ended Missing = true
has_ended Again = true
