-- How a key and a value are packed into the words of a block.
use Rattle.std.specs.Prelude.{◌≡◌, ℕ, zero, suc, ◌+◌, ◌*◌, ◌/◌, ◌%◌, Bool, ◌&&◌, nat_le, nat_eq, if◌then◌else◌, List, [], ◌∷◌, ◌++◌, length, take, drop, slice_index, Option, Some, None}
use Rattle.std.specs.List.{flat_map}
use Rattle.std.specs.Cmp.Lexicographic.{pointwise}
use Rattle.byteorder.specs.Endian.{little_number, little_bytes}
use Rattle.kv_block.specs.Bytes.{IsKeyLength, IsValueLength, AreBytes}

-- a key and a value, as their bytes
pub record Pair : Type 0 where
  pub key : List ℕ
  pub value : List ℕ

-- the pair of these two
abbrev pub pair_of : List ℕ × List ℕ → Pair
pair_of p = record { key = p.0; value = p.1 }

-- bytes that a key and a value may have
pub record IsPair (p : Pair) : Type 0 where
  pub key_length : IsKeyLength (length p.key)
  pub value_length : IsValueLength (length p.value)
  pub key_bytes : AreBytes p.key
  pub value_bytes : AreBytes p.value

-- how many words hold so many bytes
abbrev pub words_for : ℕ → ℕ
words_for n = (n + 7) / 8

-- the first n words of bytes: eight bytes to a word, the first lowest, and zeros past the end of the bytes
abbrev pub words_of : ℕ → List ℕ → List ℕ
words_of zero bytes = []
words_of (suc n) bytes = little_number 8 bytes ∷ words_of n (drop 8 bytes)

-- the bytes of words, eight of each, the lowest first
abbrev pub bytes_of : List ℕ → List ℕ
bytes_of words = flat_map (little_bytes 8) words

-- the first word of a block: the two numbers of bytes
abbrev pub first_word : ℕ → ℕ → ℕ
first_word key value = key + 65536 * value

-- the numbers of bytes that a first word tells
abbrev pub key_length : ℕ → ℕ
key_length first = first % 65536

abbrev pub value_length : ℕ → ℕ
value_length first = first / 65536

-- how many words a block has, by its first word
abbrev pub block_length : ℕ → ℕ
block_length first = 1 + words_for (key_length first) + words_for (value_length first)

-- the words of a pair's block
unfoldable pub packed : List ℕ → List ℕ → List ℕ
packed key value =
    first_word (length key) (length value) ∷ words_of (words_for (length key)) key ++ words_of (words_for (length value)) value

-- the pair that words would hold, by the numbers of bytes in the first of them
abbrev pub pair_in : ℕ → List ℕ → Pair
pair_in first words = record {
  key = take (key_length first) (bytes_of (take (words_for (key_length first)) words));
  value = take (value_length first) (bytes_of (drop (words_for (key_length first)) words));
}

-- the numbers of bytes are those of a key and a value
abbrev pub is_pair : Pair → Bool
is_pair p = nat_le 1 (length p.key) && nat_le (length p.key) 64 && nat_le (length p.value) 1024

-- the pair, where the words are its block
abbrev pub if_packed : List ℕ → Pair → Option Pair
if_packed words p = if is_pair p && pointwise nat_eq (packed p.key p.value) words then Some p else None

-- the pair whose block the words are
unfoldable pub unpacked : List ℕ → Option Pair
unpacked [] = None
unpacked (first ∷ words) = if_packed (first ∷ words) (pair_in first words)

-- words of the number that the first of them tells, by lengths that a key and a value may have
pub record HasShape (words : List ℕ) : Type 0 where
  pub key : IsKeyLength (key_length (slice_index words 0))
  pub value : IsValueLength (value_length (slice_index words 0))
  pub count : length words ≡ block_length (slice_index words 0)
