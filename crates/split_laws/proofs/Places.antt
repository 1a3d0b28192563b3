-- The places of the slots, by their numbers.
use Rattle.std.specs.Prelude.{◌≡◌, ◌≢◌, ℕ, ◌+◌, ◌-◌, ◌*◌, ◌/◌, ◌%◌, ◌<◌}
use Rattle.std.proofs.Common.{arith}
use Rattle.node_words.specs.declared.geometry.Geometry.{Geometry}
use Rattle.race_laws.specs.Rows.{IsPlace}
use Rattle.split_text.specs.Words.{slot_count, place_of}

pub place_is : (g : Geometry) (i : ℕ) → i < slot_count g → IsPlace g (place_of i)
place_is g i h = (low g.groups i h, no_header i)
  where
    low : (n i : ℕ) → i < 21 * n → i + i / 7 + 1 < 24 * n
    low n i h = omega arith

    no_header : (i : ℕ) → (i + i / 7 + 1) % 8 ≢ 0
    no_header i e = omega arith

-- the number of a slot's place
abbrev pub number_of : ℕ → ℕ
number_of p = 7 * (p / 8) + p % 8 - 1

pub number_low : (g : Geometry) (p : ℕ) → IsPlace g p → number_of p < slot_count g
number_low g p h = let a = h.0 in let b = h.1 in by g.groups p a b
  where
    by : (n p : ℕ) → p < 24 * n → p % 8 ≢ 0 → 7 * (p / 8) + p % 8 - 1 < 21 * n
    by n p a b = omega arith

pub place_number : (p : ℕ) → p % 8 ≢ 0 → place_of (number_of p) ≡ p
place_number p h = omega arith
