-- When a block may be placed in a slot of a table that may be filling.
use Rattle.std.specs.Prelude.{ℕ, ◌-◌, ◌⊎◌}
use Rattle.verb_log.specs.Tables.{Past}
use Rattle.race_laws.specs.Setting.{Setting}
use Rattle.race_laws.specs.Standing.{header_in, birth_in, IsFilling}
use Rattle.race_laws.specs.Splits.{WasClear}

-- the table does not fill, or the same place of its parent was clear for the split that made it
abbrev pub Ready : Setting → ℕ → ℕ → Past → Type 0
Ready s t p q = (IsFilling (header_in s.geometry q t) → ⊥) ⊎ WasClear s q (birth_in s.geometry q t).parent ((birth_in s.geometry q t).depth - 1) p
