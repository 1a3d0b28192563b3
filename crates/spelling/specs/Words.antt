-- Reading lines and words: what a text says, or None where it is misspelt.
use Rattle.std.specs.Prelude.{ℕ, ◌+◌, ◌-◌, ◌*◌, ◌^◌, ◌&&◌, ◌==◌, nat_le, nat_lt, Bool, true, false, not, if◌then◌else◌, List, [], ◌∷◌, ◌++◌, length, codes, slice_index, Option, Some, None}
use Rattle.std.specs.List.{list_all, slice_split}
use Rattle.std.specs.Option.{option_and_then}
use Rattle.std.specs.Int.{w64, from_be_bytes}
use Rattle.std.specs.Str.Parse.{digits_value}
use Rattle.std.specs.Fmt.{decimal}
use Rattle.kv_block.specs.Bytes.{IsKeyLength, IsValueLength, AreBytes}
use Rattle.spelling.specs.Spelling.{is_within, is_digit, is_small, is_name_byte, is_plain_text}

-- the parts of a text between the bytes c
abbrev pub parts_at : ℕ → List ℕ → List (List ℕ)
parts_at c bytes = slice_split (λ b. b == c) bytes

-- the parts that are left, behind a cut
abbrev pub parts_after : ℕ → Option (List ℕ) → List (List ℕ)
parts_after c None = []
parts_after c (Some rest) = parts_at c rest

-- digits, with no zero in front of another
abbrev pub is_numeral : List ℕ → Bool
is_numeral word = not (length word == 0) && not (nat_lt 1 (length word) && (slice_index word 0 == 48)) && list_all is_digit word

-- the decimal number below 2 ^ 64 that a word spells
abbrev pub number_of : List ℕ → Option ℕ
number_of word = if is_numeral word && nat_lt (digits_value 10 word) (2 ^ 64) then Some (digits_value 10 word) else None

-- the value of a hexadecimal digit, `a` to `f` small
abbrev pub hex_value : ℕ → Option ℕ
hex_value c = if is_digit c then Some (c - 48) else if is_within 97 102 c then Some (c - 87) else None

-- the byte of two hexadecimal digits
abbrev pub hex_pair : Option ℕ → Option ℕ → Option ℕ
hex_pair (Some high) (Some low) = Some (16 * high + low)
hex_pair (Some high) None = None
hex_pair None low = None

-- a byte in front of those that may be there
abbrev pub in_front : Option ℕ → Option (List ℕ) → Option (List ℕ)
in_front (Some b) (Some bs) = Some (b ∷ bs)
in_front (Some b) None = None
in_front None bs = None

-- the bytes of a text of hexadecimal digits, two a byte
abbrev pub hex_bytes : List ℕ → Option (List ℕ)
hex_bytes [] = Some []
hex_bytes (h ∷ []) = None
hex_bytes (h ∷ l ∷ digits) = in_front (hex_pair (hex_value h) (hex_value l)) (hex_bytes digits)

-- the number of eight bytes, the high one first
abbrev pub eight_bytes_number : List ℕ → Option ℕ
eight_bytes_number bytes = if length bytes == 8 then Some (from_be_bytes w64 bytes) else None

-- the number that sixteen hexadecimal digits spell
abbrev pub hex_number_of : List ℕ → Option ℕ
hex_number_of word = if length word == 16 then option_and_then eight_bytes_number (hex_bytes word) else None

-- bytes that have no plain spelling
abbrev pub not_plain : List ℕ → Option (List ℕ)
not_plain bytes = if is_plain_text bytes then None else Some bytes

-- the bytes that a word with `%` spells, which it must not where they are plain
abbrev pub escaped_bytes : List ℕ → Option (List ℕ)
escaped_bytes [] = None
escaped_bytes (c ∷ digits) = if c == 37 then option_and_then not_plain (hex_bytes digits) else None

-- the bytes that a word spells: plainly, or by `%` where it must
abbrev pub bytes_of : List ℕ → Option (List ℕ)
bytes_of word = if is_plain_text word then Some word else escaped_bytes word

-- bytes of which there are at most n
abbrev pub at_most : ℕ → List ℕ → Option (List ℕ)
at_most n bytes = if nat_le (length bytes) n then Some bytes else None

-- bytes of a key: 1 to 64
abbrev pub key_bytes : List ℕ → Option (List ℕ)
key_bytes bytes = if is_within 1 64 (length bytes) then Some bytes else None

-- the key that a word spells
abbrev pub key_of : List ℕ → Option (List ℕ)
key_of word = option_and_then key_bytes (bytes_of word)

-- the value that a word spells: at most 1,024 bytes
abbrev pub value_of : List ℕ → Option (List ℕ)
value_of word = option_and_then (at_most 1024) (bytes_of word)

-- a name: a small letter, and up to fifteen small letters or digits
abbrev pub is_name : List ℕ → Bool
is_name [] = false
is_name (c ∷ cs) = is_small c && list_all is_name_byte cs && nat_le (length cs) 15

-- the one word that is there
abbrev pub one_of : List (List ℕ) → Option (List ℕ)
one_of [] = None
one_of (w ∷ []) = Some w
one_of (w ∷ v ∷ ws) = None

-- the two words that are there
abbrev pub two_of : List (List ℕ) → Option (List ℕ × List ℕ)
two_of [] = None
two_of (w ∷ []) = None
two_of (w ∷ v ∷ []) = Some (w, v)
two_of (w ∷ v ∷ u ∷ ws) = None

-- whether a list has no item
abbrev pub is_empty : {A : Type 0} → List A → Bool
is_empty [] = true
is_empty (x ∷ xs) = false

-- a key: 1 to 64 bytes
abbrev pub IsKey : List ℕ → Type 0
IsKey key = IsKeyLength (length key) × AreBytes key

-- a value: at most 1,024 bytes
abbrev pub IsValue : List ℕ → Type 0
IsValue value = IsValueLength (length value) × AreBytes value

-- the name of the client at a place: `c0`, `c1` and so on
abbrev pub made_name : ℕ → List ℕ
made_name place = codes "c" ++ decimal place
