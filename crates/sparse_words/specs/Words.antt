-- What a clause sees of words of which few were written.
use Rattle.std.specs.Prelude.{ℕ, ◌/◌, List, length, map}
use Rattle.std.specs.List.{range_with_len}

-- the words in order of their addresses, and how many writes need no memory
pub record Words : Type 0 where
  pub items : List ℕ
  pub room : ℕ

-- so many words in order, each by its address
abbrev pub listed : ℕ → (ℕ → ℕ) → List ℕ
listed len word = map word (range_with_len 0 len)

-- 1 where the spare chunk is whole, else 0
abbrev pub room_of : List ℕ → ℕ
room_of spare = length spare / 8192
