-- Keys and values as lists of bytes.
use Rattle.std.specs.Prelude.{ℕ, ◌≤◌, ◌<◌, ◌^◌, Bool, List, All, nat_eq}
use Rattle.std.specs.Cmp.Lexicographic.{pointwise, slice_cmp}
use Rattle.std.specs.Ordering.{nat_cmp}
use Rattle.std.specs.declared.cmp.Ordering.{Ordering}

-- the order of keys: by their bytes, and a key that begins another comes first
abbrev pub key_cmp : List ℕ → List ℕ → Ordering
key_cmp = slice_cmp nat_cmp

-- two keys, or two values, with the same bytes
abbrev pub key_eq : List ℕ → List ℕ → Bool
key_eq = pointwise nat_eq

-- how many bytes a key has
pub record IsKeyLength (n : ℕ) : Type 0 where
  pub least : 1 ≤ n
  pub most : n ≤ 64

-- how many bytes a value has
abbrev pub IsValueLength : ℕ → Type 0
IsValueLength n = n ≤ 1024

-- numbers that are bytes
abbrev pub AreBytes : List ℕ → Type 0
AreBytes bytes = All (λ b. b < 2 ^ 8) bytes
