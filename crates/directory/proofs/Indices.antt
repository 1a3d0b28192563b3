-- The indices with the child's suffix.
use Rattle.std.proofs.Common.{sym, ap, ◌∙◌, ◌≡◌, ℕ, ◌+◌, ◌-◌, ◌*◌, ◌^◌, ◌≤◌, arith}
use Rattle.std.specs.Prelude.{◌%◌}
use Rattle.std.proofs.lemmas.Nat.{pow-add, pow_pos, mod_below, one_shl}
use Rattle.std.proofs.Math.Nat.{pow-le-pow_right}

parts : (e g : ℕ) → e ≤ g → g ≡ (g - e) + e
parts e g le = omega arith

-- so many steps lead from the least index with the suffix past the last one below 2 ^ g
pub all_steps : (e g : ℕ) → e ≤ g → 2 ^ (g - e) * 2 ^ e ≡ 2 ^ g
all_steps e g le = sym (ap (λ v. 2 ^ v) (parts e g le) ∙ pow-add 2 (g - e) e)

-- .. as the machine takes them
pub indices_fit : (e g x : ℕ) → e ≤ g → g ≤ 16 → x % (1 * 2 ^ e % 2 ^ 64) + (1 * 2 ^ (g - e) % 2 ^ 64) * 2 ^ e ≤ 131072
indices_fit e g x le low =
    let a = one_shl e 64 (omega arith) in
    let b = one_shl (g - e) 64 (omega arith) in
    let m = mod_below x (2 ^ e) (pow_pos e) in
    let p : 2 ^ e ≤ 2 ^ 16 = pow-le-pow_right (omega arith) {i = e} {j = 16} (omega arith) in
    let q : 2 ^ g ≤ 2 ^ 16 = pow-le-pow_right (omega arith) {i = g} {j = 16} low in
    let s = all_steps e g le in
    rw a (rw b (omega arith))
