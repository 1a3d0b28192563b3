-- The number of a key that is not listed.

use Rattle.std.specs.Prelude.{ℕ, ◌*◌, ◌/◌, ◌%◌, ◌^◌, List, fold, bit_xor}

-- a number and its high bits, shifted down by k, in an exclusive or
abbrev pub folded : ℕ → ℕ → ℕ
folded k x = bit_xor x (x / 2 ^ k)

-- a product that wraps at 64 bits
abbrev pub scaled : ℕ → ℕ → ℕ
scaled factor x = (x * factor) % 2 ^ 64

-- the five steps of mixing
unfoldable pub mix : ℕ → ℕ
mix x = folded 31 (scaled 0x94d049bb133111eb (folded 27 (scaled 0xbf58476d1ce4e5b9 (folded 30 x))))

-- FNV-1a of 64 bits: one byte, and all bytes from the offset basis on
abbrev pub with_byte : ℕ → ℕ → ℕ
with_byte hash byte = scaled 0x100000001b3 (bit_xor hash byte)

unfoldable pub hashed : List ℕ → ℕ
hashed bytes = fold with_byte 0xcbf29ce484222325 bytes

-- the number of a key, by its bytes
unfoldable pub mixed : List ℕ → ℕ
mixed key = mix (hashed key)
