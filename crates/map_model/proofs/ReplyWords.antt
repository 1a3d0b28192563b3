-- A reply is told by its words.
use Rattle.std.proofs.Common.{◌≡◌, ℕ, ◌%◌, ◌^◌, ◌<◌, ◌≤◌, List, length, true, refl, arith}
use Rattle.std.specs.Prelude.{nat_le}
use Rattle.std.proofs.lemmas.Bool.Decides.{nat_tests}
use Rattle.map_model.specs.ReplyWords.{nexts_told}

-- a number of 32 bits is told by its word
pub number-told : (n : ℕ) → n < 2 ^ 32 → n % 2 ^ 32 ≡ n
number-told n h = omega arith

pub nexts-told : (next : List ℕ) → 1 ≤ length next → length next ≤ 8 → nexts_told next ≡ next
nexts-told next h l =
    let a : nat_le 1 (length next) ≡ true = grind (arith, nat_tests) in
    let b : nat_le (length next) 8 ≡ true = grind (arith, nat_tests) in
    rw (a, b) refl

pub ruleset told_replies = (number-told, nexts-told)
