-- Where a key may stand in a table, by its hash.

use Rattle.std.specs.Prelude.{◌≡◌, ◌≢◌, ◌<◌, ◌≤◌, ℕ, ◌+◌, ◌-◌, ◌*◌, ◌/◌, ◌%◌, ◌^◌, ◌==◌, if◌then◌else◌, List, [], ◌++◌, length, slice_index}
use Rattle.std.specs.List.{range_with_len}

-- the place of the first word of main bucket m, which is its header
abbrev pub main_place : ℕ → ℕ
main_place m = 24 * (m / 2) + 16 * (m % 2)

-- the place of the first word of its overflow bucket
abbrev pub overflow_place : ℕ → ℕ
overflow_place m = 24 * (m / 2) + 8

-- the other main bucket of the group: m with its lowest bit flipped
abbrev pub neighbour : ℕ → ℕ
neighbour m = if m % 2 == 0 then m + 1 else m - 1

-- the bits 56 to 63 of a hash
abbrev pub fingerprint_of : ℕ → ℕ
fingerprint_of hash = hash / 2 ^ 56

-- the first main bucket of a hash in tables of so many groups
unfoldable pub first_bucket : ℕ → ℕ → ℕ
first_bucket groups hash = (hash / 2 ^ 16) % (2 * groups)

-- the main bucket that is drawn second, and the second main bucket
unfoldable pub drawn_bucket : ℕ → ℕ → ℕ
drawn_bucket groups hash = (hash / 2 ^ 32) % (2 * groups)

unfoldable pub second_bucket : ℕ → ℕ → ℕ
second_bucket groups hash = if drawn_bucket groups hash == first_bucket groups hash then neighbour (first_bucket groups hash) else drawn_bucket groups hash

-- the place of the first word of a bucket, in the largest table
abbrev pub IsBucketStart : ℕ → Type 0
IsBucketStart b = (b % 8 ≡ 0) × (b + 8 ≤ 24 * 64)

-- the place of a slot in tables of so many groups: within the table, and the first word of no bucket
abbrev pub IsSlotPlace : ℕ → ℕ → Type 0
IsSlotPlace groups p = (p < 24 * groups) × (p % 8 ≢ 0)

-- the places of the seven slots of the bucket whose first word has place b
abbrev pub slots_from : ℕ → List ℕ
slots_from b = range_with_len (b + 1) 7

-- the places of the slots of two main buckets, each with its overflow bucket, which stands once where both share it
unfoldable pub places_of : ℕ → ℕ → ℕ → ℕ → List ℕ
places_of a over_a b over_b = slots_from a ++ (slots_from over_a ++ (slots_from b ++ (if over_a == over_b then [] else slots_from over_b)))

-- the places of the candidates of a hash in tables of so many groups
unfoldable pub candidates : ℕ → ℕ → List ℕ
candidates groups hash =
    places_of (main_place (first_bucket groups hash)) (overflow_place (first_bucket groups hash))
    (main_place (second_bucket groups hash)) (overflow_place (second_bucket groups hash))

-- the first word of the bucket that begins with place number i of a list of places, and of the last bucket
abbrev pub header_of : List ℕ → ℕ → ℕ
header_of places i = slice_index places i - 1

-- the number of the last bucket's first slot: the second bucket's, where that is shared
abbrev pub last_number : List ℕ → ℕ
last_number places = if length places == 28 then 21 else 7

abbrev pub last_header_of : List ℕ → ℕ
last_header_of places = header_of places (last_number places)
