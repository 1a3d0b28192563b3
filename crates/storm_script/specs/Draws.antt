-- Drawn numbers, each from a state.
use Rattle.std.specs.Prelude.{ℕ, zero, suc, ◌+◌, ◌%◌, ◌^◌, List, [], ◌∷◌}
use Rattle.key_hash.specs.Mixing.{mix}

-- the state after a draw
abbrev pub stepped : ℕ → ℕ
stepped state = (state + 0x9e3779b97f4a7c15) % 2 ^ 64

-- the number that a draw from this state gives
abbrev pub drawn : ℕ → ℕ
drawn state = mix (stepped state)

-- the numbers of so many draws, one after the other
abbrev pub drawn_numbers : ℕ → ℕ → List ℕ
drawn_numbers zero state = []
drawn_numbers (suc count) state = drawn state ∷ drawn_numbers count (stepped state)

-- the state after so many draws
abbrev pub state_after : ℕ → ℕ → ℕ
state_after zero state = state
state_after (suc count) state = state_after count (stepped state)
