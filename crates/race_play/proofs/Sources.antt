-- A source of which nothing was read.
use Rattle.std.proofs.Common.{ℕ, List, [], Option, Some, None, refl, arith}
use Rattle.std.specs.Io.KnownBytes.{Consumes}
use Rattle.race_io.specs.Transfer.{TakesSome}

pub read-nothing : (left : Option (List ℕ)) → TakesSome left left 4194305
read-nothing left = ([], omega arith, by left)
  where
    by : (left : Option (List ℕ)) → Consumes left left []
    by None = tt
    by (Some xs) = refl
