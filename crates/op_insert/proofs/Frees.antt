-- How many candidates are free: one less after each choice, so that as many choices as there are candidates leave none.
use Rattle.std.specs.Prelude.{◌≡◌, ◌≢◌, ℕ, zero, suc, ◌+◌, ◌<◌, ◌≤◌, Bool, true, false, cond, List, [], ◌∷◌, slice_set, refl}
use Rattle.std.proofs.Common.{sym, ap, subst, arith, ⊎_elim}
use Rattle.std.proofs.lemmas.Bool.{cases_lt, cases_eq}
use Rattle.std.proofs.lemmas.List.{get_or-set_other}
use Rattle.bucket_group.specs.Choice.{is_free}

-- one where the test passes
abbrev pub one_if : Bool → ℕ
one_if b = cond b 1 0

-- how many of the first n candidates are free
abbrev pub frees : List Bool → ℕ → ℕ
frees free zero = 0
frees free (suc n) = one_if (is_free free n) + frees free n

pub frees_most : (free : List Bool) (n : ℕ) → frees free n ≤ n
frees_most free zero = omega arith
frees_most free (suc n) = by (is_free free n) (frees_most free n)
  where
    by : (b : Bool) → frees free n ≤ n → one_if b + frees free n ≤ suc n
    by true h = omega arith
    by false h = omega arith

-- where none is free no candidate is
pub none_free : (free : List Bool) (n x : ℕ) → frees free n ≤ 0 → x < n → is_free free x ≡ false
none_free free zero x h low = absurd (omega arith)
none_free free (suc n) x h low = ⊎_elim (λ (e : x ≡ n). subst (λ v. is_free free v ≡ false) (sym e) (by (is_free free n) refl h)) (λ (o : x ≢ n). none_free free n x (omega arith) (less o)) (cases_eq x n)
  where
    less : x ≢ n → x < n
    less o = ⊎_elim (λ (k : x < n). k) (λ (k : n ≤ x). absurd (o (omega arith))) (cases_lt x n)

    by : (b : Bool) → is_free free n ≡ b → one_if (is_free free n) + frees free n ≤ 0 → b ≡ false
    by true e h = absurd (let k = ap one_if e in omega arith)
    by false e h = refl

-- a candidate that is left out is not free, and the others stay
pub out_same : (free : List Bool) (x : ℕ) → is_free (slice_set free x false) x ≡ false
out_same [] x = refl
out_same (b ∷ bs) zero = refl
out_same (b ∷ bs) (suc x) = out_same bs x

pub out_other : (free : List Bool) (x y : ℕ) → y ≢ x → is_free (slice_set free x false) y ≡ is_free free y
out_other free x y n = get_or-set_other free x y false false n

frees_before : (free : List Bool) (x n : ℕ) → n ≤ x → frees (slice_set free x false) n ≡ frees free n
frees_before free x zero h = refl
frees_before free x (suc n) h = let a = ap one_if (out_other free x n (λ e. omega arith)) in let b = frees_before free x n (omega arith) in omega arith

-- one less is free
pub frees_out : (free : List Bool) (x n : ℕ) → is_free free x ≡ true → x < n → frees (slice_set free x false) n + 1 ≡ frees free n
frees_out free x zero f low = absurd (omega arith)
frees_out free x (suc n) f low = ⊎_elim there (λ (o : x ≢ n). before o (frees_out free x n f (less o))) (cases_eq x n)
  where
    less : x ≢ n → x < n
    less o = ⊎_elim (λ (k : x < n). k) (λ (k : n ≤ x). absurd (o (omega arith))) (cases_lt x n)

    there : x ≡ n → one_if (is_free (slice_set free x false) n) + frees (slice_set free x false) n + 1 ≡ one_if (is_free free n) + frees free n
    there e =
        let a = ap one_if (subst (λ v. is_free (slice_set free x false) v ≡ false) e (out_same free x)) in
        let b = ap one_if (subst (λ v. is_free free v ≡ true) e f) in
        let c = frees_before free x n (omega arith) in omega arith

    before : x ≢ n → frees (slice_set free x false) n + 1 ≡ frees free n → one_if (is_free (slice_set free x false) n) + frees (slice_set free x false) n + 1 ≡ one_if (is_free free n) + frees free n
    before o b = let a = ap one_if (out_other free x n (λ e. o (sym e))) in omega arith
