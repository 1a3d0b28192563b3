-- What is read of a block's words in place: whether they are of a key, and the key and the value that they tell.
use Rattle.std.specs.Prelude.{ℕ, ◌+◌, Bool, ◌&&◌, nat_lt, nat_le, nat_eq, if◌then◌else◌, List, [], ◌∷◌, length, take, drop, slice_index}
use Rattle.std.specs.List.{between}
use Rattle.std.specs.Cmp.Lexicographic.{pointwise}
use Rattle.kv_block.specs.Packing.{words_for, words_of, bytes_of, key_length, value_length, block_length}

-- words are of a key where the first tells its length, and the next words are those of the key
unfoldable pub has_key : List ℕ → List ℕ → Bool
has_key ws key =
    nat_lt (words_for (length key)) (length ws) && nat_eq (key_length (slice_index ws 0)) (length key)
    && pointwise nat_eq (take (words_for (length key)) (drop 1 ws)) (words_of (words_for (length key)) key)

-- the test of `HasShape`, by the first word
abbrev pub has_shape : ℕ → List ℕ → Bool
has_shape first ws = nat_le 1 (key_length first) && nat_le (key_length first) 64 && nat_le (value_length first) 1024 && nat_eq (length ws) (block_length first)

-- the value of words by the first of them; that of no byte where they have no shape of a block
abbrev pub value_in : ℕ → List ℕ → List ℕ
value_in first ws = if has_shape first ws then take (value_length first) (bytes_of (drop (1 + words_for (key_length first)) ws)) else []

-- the value that words tell
unfoldable pub block_value : List ℕ → List ℕ
block_value ws = value_in (slice_index ws 0) ws

-- the key of words by the first of them; that of one byte that is 0 where they have no shape of a block
abbrev pub key_in : ℕ → List ℕ → List ℕ
key_in first ws = if has_shape first ws then take (key_length first) (bytes_of (between 1 (1 + words_for (key_length first)) ws)) else 0 ∷ []

-- the key that words tell
unfoldable pub block_key : List ℕ → List ℕ
block_key ws = key_in (slice_index ws 0) ws
