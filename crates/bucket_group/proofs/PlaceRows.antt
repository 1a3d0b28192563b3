-- The places of four buckets in a row of 28 numbers.
use Rattle.std.specs.Prelude.{◌≡◌, ℕ, ◌+◌, ◌==◌, if◌then◌else◌, Bool, true, false, List, [], ◌∷◌, ◌++◌, length, take, refl}
use Rattle.bucket_group.specs.Buckets.{slots_from, places_of}

-- the slots of four buckets, the last of which may be shared
places_by : Bool → ℕ → ℕ → ℕ → ℕ → List ℕ
places_by shared a b c d = slots_from a ++ (slots_from b ++ (slots_from c ++ (if shared then [] else slots_from d)))

-- the seven slots of each of the four buckets
abbrev pub row_of : ℕ → ℕ → ℕ → ℕ → List ℕ
row_of a b c d = (a + 1) ∷ (a + 1 + 1) ∷ (a + 1 + 1 + 1) ∷ (a + 1 + 1 + 1 + 1) ∷ (a + 1 + 1 + 1 + 1 + 1) ∷ (a + 1 + 1 + 1 + 1 + 1 + 1) ∷ (a + 1 + 1 + 1 + 1 + 1 + 1 + 1) ∷ (b + 1) ∷ (b + 1 + 1) ∷ (b + 1 + 1 + 1) ∷ (b + 1 + 1 + 1 + 1) ∷ (b + 1 + 1 + 1 + 1 + 1) ∷ (b + 1 + 1 + 1 + 1 + 1 + 1) ∷ (b + 1 + 1 + 1 + 1 + 1 + 1 + 1) ∷ (c + 1) ∷ (c + 1 + 1) ∷ (c + 1 + 1 + 1) ∷ (c + 1 + 1 + 1 + 1) ∷ (c + 1 + 1 + 1 + 1 + 1) ∷ (c + 1 + 1 + 1 + 1 + 1 + 1) ∷ (c + 1 + 1 + 1 + 1 + 1 + 1 + 1) ∷ (d + 1) ∷ (d + 1 + 1) ∷ (d + 1 + 1 + 1) ∷ (d + 1 + 1 + 1 + 1) ∷ (d + 1 + 1 + 1 + 1 + 1) ∷ (d + 1 + 1 + 1 + 1 + 1 + 1) ∷ (d + 1 + 1 + 1 + 1 + 1 + 1 + 1) ∷ []

row_by : (shared : Bool) (a b c d : ℕ) → take (length (places_by shared a b c d)) (row_of a b c d) ≡ places_by shared a b c d
unfolding places_by
row_by true a b c d = refl
row_by false a b c d = refl

pub row_is : (a b c d : ℕ) → take (length (places_of a b c d)) (row_of a b c d) ≡ places_of a b c d
unfolding places_of places_by
row_is a b c d = row_by (b == d) a b c d

pub ruleset place_rows = (row_is)
