-- B has room for so many parts of a call and for what its lost swaps cost.
use Rattle.std.specs.Prelude.{◌≡◌, ℕ, ◌+◌, ◌-◌, ◌*◌, ◌≤◌}
use Rattle.std.proofs.Common.{arith}
use Rattle.std.proofs.lemmas.Nat.{mul-le}
use Rattle.node_words.specs.declared.geometry.Geometry.{Geometry}
use Rattle.node_words.proofs.Sizes.{group_range}
use Rattle.call_texts.specs.Bound.{round_most}
use Rattle.call_bounds.specs.Bound.{loss_most, insert_most}
use Rattle.call_bounds.specs.Law.{PartsFit}

-- a part of an insert leaves room for a lost swap
insert_low : (g : Geometry) → insert_most g + loss_most ≤ round_most g
insert_low g = let d = g.deep in let a = group_range g.groups g.grouped in let low = a.0 in let high = a.1 in omega arith

-- n parts, each with room for a loss, and no more losses than parts
pub rounds_fit : (n tries part round most : ℕ) → tries ≤ n → n ≤ most → part + loss_most ≤ round → n * part + loss_most * tries ≤ most * round
rounds_fit n tries part round most few le low = let m = mul-le n (part + loss_most) most round le low in let e = spread n part in omega arith
  where
    spread : (n v : ℕ) → n * (v + loss_most) ≡ n * v + loss_most * n
    spread n v = omega arith

pub parts_fit : PartsFit
parts_fit g tries = rounds_fit (tries + (g.max_depth - g.first_depth) + 2) tries (insert_most g) (round_most g) (tries + 2 * g.max_depth + 4) (omega arith) (omega arith) (insert_low g)
