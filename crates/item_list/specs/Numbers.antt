-- Numbers that stand as words.
use Rattle.std.specs.Prelude.{ℕ, ◌%◌, ◌^◌, List, slice_index}

-- a number of 32 bits that stands as a word
abbrev pub number_at : List ℕ → ℕ → ℕ
number_at words i = slice_index words i % 2 ^ 32
