-- A number of 64 bits has no more than so many bits.
use Rattle.std.specs.Prelude.{◌≡◌, ℕ, ◌%◌, ◌^◌, ◌<◌, ◌≤◌}
use Rattle.std.proofs.Common.{sym, arith}
use Rattle.std.proofs.Math.Nat.{mod-eq_of_lt, pow-le-pow_right}

pub low_all : (hash depth : ℕ) → hash < 2 ^ 64 → 64 ≤ depth → hash ≡ hash % 2 ^ depth
low_all hash depth h le = let p : 2 ^ 64 ≤ 2 ^ depth = pow-le-pow_right (omega arith) le in sym (mod-eq_of_lt (omega (arith, p, h)))
