-- Which free candidate an insert takes.

use Rattle.std.specs.Prelude.{◌≡◌, ◌<◌, ℕ, ◌==◌, nat_le, Bool, true, false, not, if◌then◌else◌, List, ◌++◌, length, Option, slice_index, slice_index_or, find, count_by}
use Rattle.std.specs.List.{range_with_len}

-- whether candidate i is free
abbrev pub is_free : List Bool → ℕ → Bool
is_free free i = slice_index_or free i false

-- the numbers of the candidates in the first main bucket and its overflow bucket, in this order
abbrev pub first_combined : List ℕ
first_combined = range_with_len 0 14

-- the same of the second main bucket, of n candidates: with 28 it has an overflow bucket of its own, else that of the first
abbrev pub second_combined : ℕ → List ℕ
second_combined n = if n == 28 then range_with_len 14 14 else range_with_len 14 7 ++ range_with_len 7 7

-- how many of these candidates are not free
abbrev pub taken_of : List Bool → List ℕ → ℕ
taken_of free xs = count_by (λ i. not (is_free free i)) xs

-- the first of these candidates that is free
abbrev pub first_free_of : List Bool → List ℕ → Option ℕ
first_free_of free xs = find (λ i. is_free free i) xs

-- the choice among n candidates
unfoldable pub choice : ℕ → List Bool → Option ℕ
choice n free =
    if nat_le (taken_of free first_combined) (taken_of free (second_combined n))
    then first_free_of free first_combined
    else first_free_of free (second_combined n)

-- the combined bucket, of n candidates, that has fewer slots that are not free; the first where both have as many
unfoldable pub emptier : ℕ → List Bool → List ℕ
emptier n free = if nat_le (taken_of free first_combined) (taken_of free (second_combined n)) then first_combined else second_combined n

-- candidate i is the first of these that is free
pub record IsFirstFree (free : List Bool) (candidates : List ℕ) (i : ℕ) : Type 0 where
  pub number : ℕ
  pub among : number < length candidates
  pub named : slice_index candidates number ≡ i
  pub found : is_free free i ≡ true
  pub before : (j : ℕ) → j < number → is_free free (slice_index candidates j) ≡ false
