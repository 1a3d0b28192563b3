-- Header words: bits 7..0 the depth, bits 9..8 the state, the rest 0.
use Rattle.std.specs.Prelude.{ℕ, ◌+◌, ◌*◌, ◌/◌, ◌%◌, ◌^◌, ◌≤◌, ◌==◌, nat_le, Option, Some, None, option_map, if◌then◌else◌}
use Rattle.slot_word.specs.declared.heads.State.{State}
use Rattle.slot_word.specs.declared.heads.State.TheVariants.{Plain, Splitting, Filling}
use Rattle.slot_word.specs.declared.heads.Head.{Head}

-- the two bits of a state
abbrev pub state_bits : State → ℕ
state_bits Plain = 1
state_bits Splitting = 2
state_bits Filling = 3

-- the state of the bits above the depth, where they are one
abbrev pub state_of : ℕ → Option State
state_of bits = if bits == 1 then Some Plain else if bits == 2 then Some Splitting else if bits == 3 then Some Filling else None

-- the depth is one of a table
abbrev pub IsHead : Head → Type 0
IsHead head = head.depth ≤ 16

-- the word of a header
unfoldable pub head_word : Head → ℕ
head_word head = state_bits head.state * 2 ^ 8 + head.depth

-- the header that a word packs, where it is one
unfoldable pub head_of : ℕ → Option Head
head_of word = if nat_le (word % 2 ^ 8) 16 then option_map (λ state. record { depth = word % 2 ^ 8; state = state }) (state_of (word / 2 ^ 8)) else None
