-- A naming ends within so many verbs, whatever is answered.
use Rattle.std.proofs.Common.{subst, ap, ◌∙◌, ◌≡◌, ℕ, zero, suc, ◌+◌, ◌-◌, ◌*◌, ◌^◌, ◌≤◌, ◌<◌, Bool, true, false, cond, refl, arith}
use Rattle.std.specs.Prelude.{◌==◌, ◌&&◌, nat_lt, min}
use Rattle.std.proofs.lemmas.Bool.Decides.{nat_tests}
use Rattle.std.proofs.lemmas.Nat.{pow-add, mul-le}
use Rattle.std.proofs.Math.Nat.{pow-le-pow_right}
use Rattle.verb_log.specs.Decoded.{birth}
use Rattle.verbs.specs.Programs.{Prog, Within}
use Rattle.verbs.proofs.Progs.{Within-more}
use Rattle.directory.specs.declared.naming.Naming.{Naming}
use Rattle.directory.specs.declared.naming.Named.{Named}
use Rattle.directory.specs.Text.{old_depth, step, first_index, indices, look, name_each, name_below, double, after_depth, naming}
use Rattle.directory.specs.Bound.{naming_verbs}

either : (n : ℕ) (v : Bool) (p q : Prog Named) → (v ≡ true → Within n p) → (v ≡ false → Within n q) → Within n (cond v p q)
either n true p q h k = h refl
either n false p q h k = k refl

-- a word that is looked at costs two verbs each time
look-within : (t : Naming) (n j word most total : ℕ) (next : Prog Named) → 2 * n + most ≤ total → Within most next → Within total (look t n j word next)
look-within t zero j word most total next le h = Within-more most total next (omega arith) h
look-within t (suc n) j word most zero next le h = absurd (omega arith)
look-within t (suc n) j word most (suc zero) next le h = absurd (omega arith)
look-within t (suc n) j word most (suc (suc total)) next le h = λ w.
    either (suc total) (nat_lt (birth w).depth t.birth.depth) _ next
    (λ e found. either total (found == word) next (look t n j found next)
    (λ f. Within-more most total next (omega arith) h)
    (λ f. look-within t n j found most total next (omega arith) h))
    (λ e. Within-more most (suc total) next (omega arith) h)

-- an index: its read, and at most birth depth + 1 looks
abbrev index_verbs : Naming → ℕ
index_verbs t = 2 * t.birth.depth + 3

each-within : (t : Naming) (depth n j total : ℕ) → n * index_verbs t ≤ total → Within total (name_each t depth n j)
each-within t depth zero j total le = tt
each-within t depth (suc n) j zero le = absurd (omega arith)
each-within t depth (suc n) j (suc total) le = λ word.
    look-within t (suc t.birth.depth) j word (n * index_verbs t) total _ (omega arith) (each-within t depth n (j + step t) (n * index_verbs t) (omega arith))

-- a birth depth e has so few indices that they cost no more than three verbs for each word
pow_three : (e : ℕ) → 2 * e + 3 ≤ 3 * 2 ^ e
pow_three zero = omega arith
pow_three (suc e) = let h = pow_three e in let k = pow-add 2 1 e in let s : 2 ^ suc e ≡ 2 * 2 ^ e = ap (λ v. 2 ^ v) (plus e) ∙ k in omega arith
  where
    plus : (x : ℕ) → suc x ≡ 1 + x
    plus x = omega arith

few_indices : (e g : ℕ) → e ≤ g → 2 ^ (g - e) * (2 * e + 3) ≤ 3 * 2 ^ g
few_indices e g le =
    let a = mul-le (2 ^ (g - e)) (2 * e + 3) (2 ^ (g - e)) (3 * 2 ^ e) (omega arith) (pow_three e) in
    let s : 2 ^ g ≡ 2 ^ (g - e) * 2 ^ e = ap (λ v. 2 ^ v) (parts e g le) ∙ pow-add 2 (g - e) e in
    omega arith
  where
    parts : (e g : ℕ) → e ≤ g → g ≡ (g - e) + e
    parts e g le = omega arith

few_by : (t : Naming) (g : ℕ) (v : Bool) → nat_lt g t.birth.depth ≡ v → cond v 0 (2 ^ (g - t.birth.depth)) * index_verbs t ≤ 3 * 2 ^ g
few_by t g true e = omega arith
few_by t g false e = few_indices t.birth.depth g (not_less g t.birth.depth e)
  where
    not_less : (x y : ℕ) → nat_lt x y ≡ false → y ≤ x
    not_less x y h = grind (arith, nat_tests)

below-within : (t : Naming) (global total : ℕ) → 3 * 2 ^ t.geometry.max_depth ≤ total → Within total (name_below t global)
below-within t global total le =
    let d : ℕ = min global t.geometry.max_depth in
    let f = few_by t (min global t.geometry.max_depth) (nat_lt (min global t.geometry.max_depth) t.birth.depth) refl in
    let p : 2 ^ min global t.geometry.max_depth ≤ 2 ^ t.geometry.max_depth = pow-le-pow_right (omega arith) (omega arith) in
    each-within t (min global t.geometry.max_depth) (indices t (min global t.geometry.max_depth)) (first_index t) total (omega arith)

double-within : (t : Naming) (n j total : ℕ) → 2 * n + 1 + 3 * 2 ^ t.geometry.max_depth ≤ total → Within total (double t n j)
double-within t zero j zero le = absurd (omega arith)
double-within t zero j (suc total) le = λ found. below-within t _ total (omega arith)
double-within t (suc n) j zero le = absurd (omega arith)
double-within t (suc n) j (suc zero) le = absurd (omega arith)
double-within t (suc n) j (suc (suc total)) le = λ word found. double-within t n (j + 1) total (omega arith)

depth-within : (t : Naming) (global total : ℕ) → 1 + 4 * 2 ^ t.geometry.max_depth ≤ total → Within total (after_depth t global)
depth-within t global total le =
    either total (nat_lt global t.geometry.max_depth && (global + 1 == t.birth.depth)) _ (name_below t global)
    (λ e. let b = both global t.geometry.max_depth t.birth.depth e in
    let p : 2 ^ (old_depth t + 1) ≤ 2 ^ t.geometry.max_depth = pow-le-pow_right (omega arith) (omega arith) in
    let s : 2 ^ (old_depth t + 1) ≡ 2 ^ old_depth t * 2 = pow-add 2 (old_depth t) 1 in
    double-within t (2 ^ old_depth t) (2 ^ old_depth t) total (omega arith))
    (λ e. below-within t global total (omega arith))
  where
    both : (x y z : ℕ) → (nat_lt x y && (x + 1 == z)) ≡ true → (x < y) × (x + 1 ≡ z)
    both x y z h = grind (arith, nat_tests)

-- a naming ends within so many verbs, whatever is answered
pub naming-within : (t : Naming) → Within (naming_verbs t.geometry.max_depth) (naming t)
naming-within t =
    let s : 2 ^ (t.geometry.max_depth + 2) ≡ 2 ^ t.geometry.max_depth * 4 = pow-add 2 t.geometry.max_depth 2 in
    subst (λ v. Within v (naming t)) (sum (2 ^ (t.geometry.max_depth + 2))) (λ global. depth-within t global (2 ^ (t.geometry.max_depth + 2) + 1) (omega arith))
  where
    sum : (x : ℕ) → suc (x + 1) ≡ x + 2
    sum x = omega arith
