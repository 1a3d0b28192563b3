-- A value by itself as words.
use Rattle.std.specs.Prelude.{ℕ, ◌&&◌, nat_le, nat_eq, if◌then◌else◌, List, [], ◌∷◌, length, take, drop, slice_index}
use Rattle.kv_block.specs.Packing.{words_for, words_of, bytes_of}

-- its number of bytes, and the bytes, eight to a word
abbrev pub value_words : List ℕ → List ℕ
value_words value = length value ∷ words_of (words_for (length value)) value

-- the value of so many bytes, where the words are of their number
abbrev pub value_of : ℕ → List ℕ → List ℕ
value_of len words = if nat_le len 1024 && nat_eq (length words) (words_for len) then take len (bytes_of words) else []

-- the value that words tell
abbrev pub value_told : List ℕ → List ℕ
value_told words = value_of (slice_index words 0) (drop 1 words)
