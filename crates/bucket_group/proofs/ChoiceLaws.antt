-- What the choice says of the candidates.

use Rattle.std.proofs.Common.{◌≡◌, ◌≢◌, ℕ, zero, suc, ◌+◌, ◌<◌, ◌≤◌, ◌⊎◌, inl, inr, ⊎_elim, Bool, true, false, not, cond, List, [], ◌∷◌, ◌++◌, length, Option, Some, None, refl, sym, ap, subst, ◌∙◌, arith}
use Rattle.std.specs.Prelude.{find, count_by, slice_index, IfSome, IfNone}
use Rattle.std.specs.List.{range_with_len}
use Rattle.std.proofs.lemmas.Bool.{cases_lt, cases_eq}
use Rattle.std.proofs.lemmas.Bool.Decides.{nat_tests}
use Rattle.std.proofs.lemmas.List.Sums.{sum_by-cons, count_by-le-length}
use Rattle.bucket_group.specs.Choice.{is_free, first_combined, second_combined, taken_of, first_free_of, choice, emptier, IsFirstFree}

-- what holds of each element of a list
abbrev pub Each : (ℕ → Type 0) → List ℕ → Type 0
Each P [] = Unit {0}
Each P (x ∷ xs) = P x × Each P xs

pub Each-append : (P : ℕ → Type 0) (xs ys : List ℕ) → Each P xs → Each P ys → Each P (xs ++ ys)
Each-append P [] ys h l = l
Each-append P (x ∷ xs) ys h l = (h.0, Each-append P xs ys h.1 l)

pub Each-front : (P : ℕ → Type 0) (xs ys : List ℕ) → Each P (xs ++ ys) → Each P xs
Each-front P [] ys h = tt
Each-front P (x ∷ xs) ys h = (h.0, Each-front P xs ys h.1)

pub Each-range_below : (a n m : ℕ) → a + n ≤ m → Each (λ i. i < m) (range_with_len a n)
Each-range_below a zero m h = tt
Each-range_below a (suc n) m h = (omega arith, Each-range_below (a + 1) n m (omega arith))

pub Each-range_at : (P : ℕ → Type 0) (a n i : ℕ) → Each P (range_with_len a n) → a ≤ i → i < a + n → P i
Each-range_at P a zero i h l r = absurd (omega arith)
Each-range_at P a (suc n) i h l r =
    ⊎_elim (λ (e : a ≡ i). subst P e h.0) (λ (e : a ≢ i). Each-range_at P (a + 1) n i h.1 (omega arith) (omega arith)) (cases_eq a i)

pub pass_cases : (b : Bool) → (b ≡ true) ⊎ (b ≡ false)
pass_cases true = inl refl
pass_cases false = inr refl

-- the first element that passes a test passes it, and is one of the list
pub find-holds : (p : ℕ → Bool) (Q : ℕ → Type 0) (xs : List ℕ) (i : ℕ) → Each Q xs → find p xs ≡ Some i → (p i ≡ true) × Q i
find-holds p Q [] i h e = absurd (cc)
find-holds p Q (x ∷ xs) i h e =
    elim (pass_cases (p x)) [
      | inl t ↦ (let q : x ≡ i = cc in (subst (λ n. p n ≡ true) q t, subst Q q h.0))
      | inr f ↦ find-holds p Q xs i h.1 (cc)
    ]

-- where none passes, each fails, and as many are counted as there are
pub find-none : (p : ℕ → Bool) (xs : List ℕ) → find p xs ≡ None → Each (λ i. p i ≡ false) xs
find-none p [] e = tt
find-none p (x ∷ xs) e = elim (pass_cases (p x)) [ inl t ↦ absurd (cc) | inr f ↦ (f, find-none p xs (cc)) ]

-- one of these, unless the test passes
abbrev pub one_unless : Bool → ℕ
one_unless b = cond (not b) 1 0

pub one_unless-true : (b : Bool) → b ≡ true → one_unless b ≡ 0
one_unless-true b t = ap one_unless t

pub one_unless-false : (b : Bool) → b ≡ false → one_unless b ≡ 1
one_unless-false b f = ap one_unless f

pub count-step : (p : ℕ → Bool) (x : ℕ) (xs : List ℕ) → count_by (λ i. not (p i)) (x ∷ xs) ≡ one_unless (p x) + count_by (λ i. not (p i)) xs
count-step p x xs = sum_by-cons (λ i. cond (not (p i)) 1 0) x xs

pub count-none : (p : ℕ → Bool) (xs : List ℕ) → find p xs ≡ None → count_by (λ i. not (p i)) xs ≡ length xs
count-none p [] e = refl
count-none p (x ∷ xs) e =
    elim (pass_cases (p x)) [
      | inl t ↦ absurd (cc)
      | inr f ↦ (let n : find p xs ≡ None = cc in let o = one_unless-false (p x) f in
          let s = count-step p x xs in let r = count-none p xs n in omega arith)
    ]

-- where one passes, fewer are counted
pub count-some : (p : ℕ → Bool) (xs : List ℕ) (i : ℕ) → find p xs ≡ Some i → count_by (λ i. not (p i)) xs < length xs
count-some p [] i e = absurd (cc)
count-some p (x ∷ xs) i e =
    elim (pass_cases (p x)) [
      | inl t ↦ (let o = one_unless-true (p x) t in
          let s = count-step p x xs in let r = count_by-le-length (λ i. not (p i)) xs in omega arith)
      | inr f ↦ (let n : find p xs ≡ Some i = cc in let o = one_unless-false (p x) f in
          let s = count-step p x xs in let r = count-some p xs i n in omega arith)
    ]

-- where as many are counted as there are, none passes
pub find-full : (p : ℕ → Bool) (xs : List ℕ) (o : Option ℕ) → find p xs ≡ o → length xs ≤ count_by (λ i. not (p i)) xs → o ≡ None
find-full p xs None e h = refl
find-full p xs (Some i) e h = let c = count-some p xs i e in absurd (omega arith)

-- the candidates of the two main buckets are among n
pub first_within : (n : ℕ) → (n ≡ 21) ⊎ (n ≡ 28) → Each (λ i. i < n) first_combined
first_within n (inl e) = Each-range_below 0 14 n (omega arith)
first_within n (inr e) = Each-range_below 0 14 n (omega arith)

pub second_within : (n : ℕ) → (n ≡ 21) ⊎ (n ≡ 28) → Each (λ i. i < n) (second_combined n)
second_within n (inl e) = subst (λ m. Each (λ i. i < m) (second_combined m)) (sym e) (Each-append (λ i. i < 21) (range_with_len 14 7) (range_with_len 7 7) (Each-range_below 14 7 21 (omega arith)) (Each-range_below 7 7 21 (omega arith)))
second_within n (inr e) = subst (λ m. Each (λ i. i < m) (second_combined m)) (sym e) (Each-range_below 14 14 28 (omega arith))

-- 14 candidates each
pub length-second : (n : ℕ) → (n ≡ 21) ⊎ (n ≡ 28) → length (second_combined n) ≡ 14
length-second n (inl e) = ap (λ m. length (second_combined m)) e
length-second n (inr e) = ap (λ m. length (second_combined m)) e

-- and together all of them
pub second_covers : (P : ℕ → Type 0) (n i : ℕ) → (n ≡ 21) ⊎ (n ≡ 28) → Each P (second_combined n) → 14 ≤ i → i < n → P i
second_covers P n i (inl e) h l r = Each-range_at P 14 7 i (Each-front P (range_with_len 14 7) (range_with_len 7 7) (subst (λ m. Each P (second_combined m)) e h)) l (omega arith)
second_covers P n i (inr e) h l r = Each-range_at P 14 14 i (subst (λ m. Each P (second_combined m)) e h) l (omega arith)

pub covers : (P : ℕ → Type 0) (n i : ℕ) → (n ≡ 21) ⊎ (n ≡ 28) → Each P first_combined → Each P (second_combined n) → i < n → P i
covers P n i t h k r = elim (cases_lt i 14) [ inl l ↦ Each-range_at P 0 14 i h (omega arith) l | inr l ↦ second_covers P n i t k l r ]

-- the choice is in the first combined bucket where it has no more slots that are not free, else in the second
pub choice-first : (n : ℕ) (free : List Bool) → taken_of free first_combined ≤ taken_of free (second_combined n) → choice n free ≡ first_free_of free first_combined
unfolding choice
choice-first n free h = grind (arith, nat_tests)

pub choice-second : (n : ℕ) (free : List Bool) → taken_of free (second_combined n) < taken_of free first_combined → choice n free ≡ first_free_of free (second_combined n)
unfolding choice
choice-second n free h = grind (arith, nat_tests)

-- what is chosen is a free candidate
pub choice-free : (n : ℕ) (free : List Bool) (i : ℕ) → (n ≡ 21) ⊎ (n ≡ 28) → choice n free ≡ Some i → (is_free free i ≡ true) × (i < n)
choice-free n free i t e =
    elim (cases_lt (taken_of free (second_combined n)) (taken_of free first_combined)) [
      | inl l ↦ find-holds (is_free free) (λ j. j < n) (second_combined n) i (second_within n t) (sym (choice-second n free l) ∙ e)
      | inr l ↦ find-holds (is_free free) (λ j. j < n) first_combined i (first_within n t) (sym (choice-first n free l) ∙ e)
    ]

-- where nothing is chosen no candidate is free
pub choice-none : (n : ℕ) (free : List Bool) (i : ℕ) → (n ≡ 21) ⊎ (n ≡ 28) → choice n free ≡ None → i < n → is_free free i ≡ false
choice-none n free i t e r =
    let m = length-second n t in let c = count_by-le-length (λ i. not (is_free free i)) first_combined in
    elim (cases_lt (taken_of free (second_combined n)) (taken_of free first_combined)) [
      | inl l ↦ (let s = count-none (is_free free) (second_combined n) (sym (choice-second n free l) ∙ e) in absurd (omega arith))
      | inr l ↦ (let f = sym (choice-first n free l) ∙ e in let s = count-none (is_free free) first_combined f in
          covers (λ j. is_free free j ≡ false) n i t (find-none (is_free free) first_combined f)
          (find-none (is_free free) (second_combined n) (find-full (is_free free) (second_combined n) (first_free_of free (second_combined n)) refl (omega arith))) r)
    ]

pub none_of : (n : ℕ) (free : List Bool) → (n ≡ 21) ⊎ (n ≡ 28) → ((i : ℕ) → i < n → is_free free i ≡ false) → (o : Option ℕ) → choice n free ≡ o → o ≡ None
none_of n free t h None e = refl
none_of n free t h (Some i) e = let x = choice-free n free i t e in let f = h i x.1 in let y = x.0 in absurd (cc)

-- and back: where no candidate is free nothing is chosen
pub choice-is_none : (n : ℕ) (free : List Bool) → (n ≡ 21) ⊎ (n ≡ 28) → ((i : ℕ) → i < n → is_free free i ≡ false) → choice n free ≡ None
choice-is_none n free t h = none_of n free t h (choice n free) refl

-- both, of a result that is the choice
pub choice-tells_some : (n : ℕ) (free : List Bool) (o : Option ℕ) → (n ≡ 21) ⊎ (n ≡ 28) → o ≡ choice n free → IfSome o (λ i. (i < n) × (is_free free i ≡ true))
choice-tells_some n free None t e = tt
choice-tells_some n free (Some i) t e = let x = choice-free n free i t (sym e) in (x.1, x.0)

pub choice-tells_none : (n : ℕ) (free : List Bool) (o : Option ℕ) → (n ≡ 21) ⊎ (n ≡ 28) → o ≡ choice n free → IfNone o ((i : ℕ) → i < n → is_free free i ≡ false)
choice-tells_none n free None t e = λ i r. choice-none n free i t (sym e) r
choice-tells_none n free (Some i) t e = tt

-- the first that is free of a list, by its number
pub before_next : (free : List Bool) (x : ℕ) (xs : List ℕ) (n j : ℕ) → is_free free x ≡ false → ((k : ℕ) → k < n → is_free free (slice_index xs k) ≡ false) → j < suc n → is_free free (slice_index (x ∷ xs) j) ≡ false
before_next free x xs n zero f h l = f
before_next free x xs n (suc j) f h l = h j (omega arith)

pub find-first : (free : List Bool) (xs : List ℕ) (i : ℕ) → find (λ j. is_free free j) xs ≡ Some i → IsFirstFree free xs i
find-first free [] i e = absurd (cc)
find-first free (x ∷ xs) i e =
    elim (pass_cases (is_free free x)) [
      | inl t ↦ (let q : x ≡ i = cc in
          record { number = 0; among = omega arith; named = q; found = subst (λ j. is_free free j ≡ true) q t; before = λ j l. absurd (omega arith) })
      | inr f ↦ (let r = find-first free xs i (cc) in let a = r.among in
          record { number = suc r.number; among = omega arith; named = r.named; found = r.found; before = λ j l. before_next free x xs r.number j f r.before l })
    ]

-- the choice is the first that is free in the emptier combined bucket
pub emptier-first : (n : ℕ) (free : List Bool) → taken_of free first_combined ≤ taken_of free (second_combined n) → emptier n free ≡ first_combined
unfolding emptier
emptier-first n free h = grind (arith, nat_tests)

pub emptier-second : (n : ℕ) (free : List Bool) → taken_of free (second_combined n) < taken_of free first_combined → emptier n free ≡ second_combined n
unfolding emptier
emptier-second n free h = grind (arith, nat_tests)

pub choice-emptier : (n : ℕ) (free : List Bool) → choice n free ≡ first_free_of free (emptier n free)
choice-emptier n free =
    elim (cases_lt (taken_of free (second_combined n)) (taken_of free first_combined)) [
      | inl l ↦ choice-second n free l ∙ ap (first_free_of free) (sym (emptier-second n free l))
      | inr l ↦ choice-first n free l ∙ ap (first_free_of free) (sym (emptier-first n free l))
    ]

pub choice-tells_first : (n : ℕ) (free : List Bool) (o : Option ℕ) → o ≡ choice n free → IfSome o (IsFirstFree free (emptier n free))
choice-tells_first n free None e = tt
choice-tells_first n free (Some i) e = find-first free (emptier n free) i (sym (choice-emptier n free) ∙ sym e)

-- the two ways to the choice, by the counts and what was found
pub first_is_choice : (n : ℕ) (free : List Bool) (second : List ℕ) (t u : ℕ) (o : Option ℕ) → second ≡ second_combined n → t ≡ taken_of free first_combined → u ≡ taken_of free second → t ≤ u → o ≡ first_free_of free first_combined → o ≡ choice n free
first_is_choice n free second t u o s a b l e = let k = ap (taken_of free) s in e ∙ sym (choice-first n free (omega arith))

pub second_is_choice : (n : ℕ) (free : List Bool) (second : List ℕ) (t u : ℕ) (o : Option ℕ) → second ≡ second_combined n → t ≡ taken_of free first_combined → u ≡ taken_of free second → u < t → o ≡ first_free_of free second → o ≡ choice n free
second_is_choice n free second t u o s a b l e = let k = ap (taken_of free) s in e ∙ ap (first_free_of free) s ∙ sym (choice-second n free (omega arith))
