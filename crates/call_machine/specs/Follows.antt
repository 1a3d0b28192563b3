-- What follows an operation.
use Rattle.std.specs.Prelude.{◌≡◌, Option, Some, None}
use Rattle.verbs.specs.Programs.{goes_on}
use Rattle.call_texts.specs.Text.{part_of}
use Rattle.call_machine.specs.declared.task.Task.{Task}
use Rattle.call_machine.specs.declared.machines.Machines.{Machines}
use Rattle.call_machine.specs.declared.at.At.{At}
use Rattle.call_machine.specs.Tasks.{caller_in}
use Rattle.call_machine.specs.Rest.{Left, rest_of}
use Rattle.call_machine.specs.Fits.{CallFits}

-- of what is left another operation is begun, of the same caller; or nothing follows, and Done holds
abbrev pub Follows : Type 0 → Left → Task → Machines → Task → Machines → Option At → Type 0
Follows Done p t m u n (Some o) = (rest_of u n o ≡ goes_on part_of p) × CallFits u n o × (caller_in u ≡ caller_in t)
Follows Done p t m u n None = Done × (u ≡ t) × (n ≡ m)
