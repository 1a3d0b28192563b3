-- A change as words: whether there is a value, and the block of the key and the value.
use Rattle.std.specs.Prelude.{ℕ, ◌==◌, if◌then◌else◌, List, [], ◌∷◌, drop, slice_index, Option, Some, None}
use Rattle.kv_block.specs.Packing.{packed}
use Rattle.kv_block.specs.Reading.{block_key, block_value}
use Rattle.kv_block.specs.declared.changes.Change.{Change}

-- 1 where there is a value
abbrev pub mark_of : Option (List ℕ) → ℕ
mark_of None = 0
mark_of (Some value) = 1

-- the value, and that of no byte where there is none
abbrev pub value_or_empty : Option (List ℕ) → List ℕ
value_or_empty None = []
value_or_empty (Some value) = value

abbrev pub change_words : Change → List ℕ
change_words c = mark_of c.value ∷ packed c.key (value_or_empty c.value)

-- the value by its mark
abbrev pub value_by : ℕ → List ℕ → Option (List ℕ)
value_by mark value = if mark == 0 then None else Some value

-- the change that words tell
abbrev pub change_told : List ℕ → Change
change_told words = record { key = block_key (drop 1 words); value = value_by (slice_index words 0) (block_value (drop 1 words)) }
