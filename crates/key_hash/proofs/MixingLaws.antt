-- A mixed number is a word of 64 bits.

use Rattle.std.proofs.Common.{ℕ, ◌*◌, ◌/◌, ◌^◌, ◌<◌, List, arith}
use Rattle.std.proofs.lemmas.Nat.{xor_lt, shr_le, mod_below}
use Rattle.key_hash.specs.Mixing.{folded, scaled, mix, hashed, mixed}

pub scaled_fits : (factor x : ℕ) → scaled factor x < 2 ^ 64
scaled_fits factor x = mod_below (x * factor) (2 ^ 64) (omega arith)

pub folded_fits : (k x : ℕ) → x < 2 ^ 64 → folded k x < 2 ^ 64
folded_fits k x h = let s = shr_le x k in xor_lt 64 x (x / 2 ^ k) h (omega arith)

pub mix_fits : (x : ℕ) → mix x < 2 ^ 64
unfolding mix
mix_fits x = folded_fits 31 (scaled 0x94d049bb133111eb (folded 27 (scaled 0xbf58476d1ce4e5b9 (folded 30 x)))) (scaled_fits 0x94d049bb133111eb (folded 27 (scaled 0xbf58476d1ce4e5b9 (folded 30 x))))

pub mixed_fits : (key : List ℕ) → mixed key < 2 ^ 64
unfolding mixed
mixed_fits key = mix_fits (hashed key)
