-- Birth words: bits 7..0 the depth, bits 23..8 the suffix, bits 63..24 the address of the parent.
use Rattle.std.specs.Prelude.{ℕ, ◌+◌, ◌*◌, ◌/◌, ◌%◌, ◌^◌, ◌<◌, ◌≤◌, ◌&&◌, nat_le, nat_lt, Option, Some, None, if◌then◌else◌}
use Rattle.slot_word.specs.declared.births.Birth.{Birth}

-- the depth is one of a table, the suffix has no more bits than that, and the parent's address fits its field
pub record IsBirth (birth : Birth) : Type 0 where
  pub depth : birth.depth ≤ 16
  pub suffix : birth.suffix < 2 ^ birth.depth
  pub parent : birth.parent < 2 ^ 40

-- the word of a birth
unfoldable pub birth_word : Birth → ℕ
birth_word birth = birth.parent * 2 ^ 24 + birth.suffix * 2 ^ 8 + birth.depth

-- the birth that a word packs, where it is one
unfoldable pub birth_of : ℕ → Option Birth
birth_of word = if nat_le (word % 2 ^ 8) 16 && nat_lt (word / 2 ^ 8 % 2 ^ 16) (2 ^ (word % 2 ^ 8)) then Some (record { depth = word % 2 ^ 8; suffix = word / 2 ^ 8 % 2 ^ 16; parent = word / 2 ^ 24 }) else None
