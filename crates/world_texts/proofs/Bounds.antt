-- No call does 2^40 verbs.
use Rattle.std.specs.Prelude.{ℕ, ◌+◌, ◌*◌, ◌^◌, ◌≤◌}
use Rattle.std.proofs.Common.{arith}
use Rattle.std.proofs.Math.Nat.{pow-le-pow_right}
use Rattle.std.proofs.lemmas.Nat.{mul-le}
use Rattle.map_model.specs.declared.calls.Call.{Call}
use Rattle.map_model.specs.declared.calls.Call.TheVariants.{Insert, Search, Update, Delete, Resize}
use Rattle.node_words.specs.declared.geometry.Geometry.{Geometry}
use Rattle.node_words.proofs.Sizes.{group_range}
use Rattle.pass_text.specs.Bound.{most_verbs}
use Rattle.call_texts.specs.State.{State}
use Rattle.call_texts.specs.Bound.{round_most, call_most}
use Rattle.world_texts.specs.Bound.{most_acts}

pass_few : (g : Geometry) → most_verbs g.max_depth ≤ 70000
pass_few g = let d = g.deep in omega arith

depth_few : (g : Geometry) → 2 ^ (g.max_depth + 2) ≤ 262144
depth_few g = let d = g.deep in pow-le-pow_right {n = 2} (omega arith) {i = g.max_depth + 2} {j = 18} (omega arith)

product_few : (a b m n : ℕ) → a ≤ m → b ≤ n → m * n ≤ 2 ^ 40 → a * b ≤ 2 ^ 40
product_few a b m n h k most = let x = mul-le a b m n h k in omega arith

call_few : (g : Geometry) (tries : ℕ) → tries ≤ 64 → call_most g tries ≤ 2 ^ 40
call_few g tries h =
    let d = g.deep in
    let p = pass_few g in
    let a = group_range g.groups g.grouped in
    let b = a.1 in
    let q = depth_few g in
    product_few (tries + 2 * g.max_depth + 4) (round_most g) 100 1000000 (omega arith) (omega arith) (omega arith)

-- of a client that may lose no more than 64 swaps
pub acts_few : (k : State) (call : Call) → k.tries ≤ 64 → most_acts k call ≤ 2 ^ 40
unfolding most_acts
acts_few k (Search key) h = let p = pass_few k.geometry in omega arith
acts_few k (Delete key) h = call_few k.geometry k.tries h
acts_few k (Update key value) h = call_few k.geometry k.tries h
acts_few k (Insert key value) h = call_few k.geometry k.tries h
acts_few k (Resize key) h = call_few k.geometry k.tries h
