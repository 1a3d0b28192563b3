-- The table where the last pass ended is an address.
use Rattle.std.specs.Prelude.{ℕ, ◌<◌, ◌^◌, Option, Some, None}

abbrev pub LowTable : Option ℕ → Type 0
LowTable None = Unit {0}
LowTable (Some t) = t < 2 ^ 46
