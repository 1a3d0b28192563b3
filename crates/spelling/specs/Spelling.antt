-- How the values of a script are spelled, each in one way.
use Rattle.std.specs.Prelude.{ℕ, ◌+◌, ◌/◌, ◌%◌, ◌&&◌, ◌||◌, ◌==◌, nat_le, nat_lt, Bool, not, if◌then◌else◌, List, [], ◌∷◌, length}
use Rattle.std.specs.List.{list_all}
use Rattle.std.specs.Int.{w64, to_be_bytes}

-- the bytes from a to b
abbrev pub is_within : ℕ → ℕ → ℕ → Bool
is_within a b c = nat_le a c && nat_le c b

-- `0` to `9`
abbrev pub is_digit : ℕ → Bool
is_digit c = is_within 48 57 c

-- `a` to `z`
abbrev pub is_small : ℕ → Bool
is_small c = is_within 97 122 c

-- `A` to `Z`
abbrev pub is_capital : ℕ → Bool
is_capital c = is_within 65 90 c

-- a byte of a name after its first: a small letter or a digit
abbrev pub is_name_byte : ℕ → Bool
is_name_byte c = is_small c || is_digit c

-- a byte that keys and values have as it is: a letter, a digit, `_`, `-` or `.`
abbrev pub is_plain : ℕ → Bool
is_plain c = is_small c || is_digit c || is_capital c || (c == 95) || (c == 45) || (c == 46)

-- a text of one byte at least, each of them plain
abbrev pub is_plain_text : List ℕ → Bool
is_plain_text bytes = not (length bytes == 0) && list_all is_plain bytes

-- a hexadecimal digit, `a` to `f` small
abbrev pub hex_digit : ℕ → ℕ
hex_digit n = if nat_lt n 10 then 48 + n else 87 + n

-- two digits a byte, the high half first
abbrev pub hex_text : List ℕ → List ℕ
hex_text [] = []
hex_text (b ∷ bs) = hex_digit (b / 16) ∷ hex_digit (b % 16) ∷ hex_text bs

-- sixteen hexadecimal digits of a number below 2 ^ 64
unfoldable pub hex_number : ℕ → List ℕ
hex_number n = hex_text (to_be_bytes w64 n)

-- a key or a value: plainly where it can be, else `%` and two digits a byte
unfoldable pub spelled : List ℕ → List ℕ
spelled bytes = if is_plain_text bytes then bytes else 37 ∷ hex_text bytes
