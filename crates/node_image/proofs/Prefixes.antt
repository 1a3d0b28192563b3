-- Lists that are written one item after the other, so that the first numbers tell the first item: what was read of such a list is
-- the front of it.
use Rattle.std.specs.Prelude.{◌≡◌, ℕ, suc, ◌+◌, ◌≤◌, List, [], ◌∷◌, ◌++◌, length, slice_get, Some, refl}
use Rattle.std.specs.List.{flat_map}
use Rattle.std.proofs.Common.{sym, ◌∙◌, ap, subst, inl, inr, arith, append_assoc}
use Rattle.race_laws.specs.Standing.{IsIn}

-- each item meets the fact of its number
abbrev pub AllFrom : {A : Type 0} → (ℕ → A → Type 0) → ℕ → List A → Type 0
AllFrom P j [] = Unit {0}
AllFrom P j (x ∷ xs) = P j x × AllFrom P (suc j) xs

pub all_from : {A : Type 0} (P : ℕ → A → Type 0) (j : ℕ) (xs : List A) → ((k : ℕ) (v : A) → slice_get xs k ≡ Some v → P (j + k) v) → AllFrom P j xs
all_from P j [] h = tt
all_from P j (x ∷ xs) h = (subst (λ n. P n x) (plus j) (h 0 x refl), all_from P (suc j) xs (λ k v e. subst (λ n. P n v) (shift j k) (h (suc k) v e)))
  where
    plus : (j : ℕ) → j + 0 ≡ j
    plus j = omega arith

    shift : (j k : ℕ) → j + suc k ≡ suc j + k
    shift j k = omega arith

pub all_in : {A : Type 0} (P : A → Type 0) (j : ℕ) (xs : List A) → ((x : A) → IsIn x xs → P x) → AllFrom (λ n. P) j xs
all_in P j [] h = tt
all_in P j (x ∷ xs) h = (h x (inl refl), all_in P (suc j) xs (λ y i. h y (inr i)))

module _ {A : Type 0} (write : A → List ℕ) (P : ℕ → A → Type 0) (one : (j : ℕ) (a b : A) (x y : List ℕ) → P j a → P j b → write a ++ x ≡ write b ++ y → (a ≡ b) × (x ≡ y)) where
  pub prefix : (j : ℕ) (ls ms : List A) (x y : List ℕ) → AllFrom P j ls → AllFrom P j ms → length ls ≤ length ms → flat_map write ls ++ x ≡ flat_map write ms ++ y → (more : List A) × (ms ≡ ls ++ more) × (x ≡ flat_map write more ++ y)
  prefix j [] ms x y h k l e = (ms, refl, e)
  prefix j (a ∷ ls) [] x y h k l e = absurd (omega arith)
  prefix j (a ∷ ls) (b ∷ ms) x y h k l e =
      let r = one j a b (flat_map write ls ++ x) (flat_map write ms ++ y) h.0 k.0 (sym (append_assoc (write a) (flat_map write ls) x) ∙ e ∙ append_assoc (write b) (flat_map write ms) y) in
      let t = prefix (suc j) ls ms x y h.1 k.1 (omega arith) r.1 in
      (t.0, ap (λ v. v ∷ ms) (sym r.0) ∙ ap (λ v. a ∷ v) t.1, t.2)
