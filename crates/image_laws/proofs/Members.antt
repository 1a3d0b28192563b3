-- What stands among the items of a list, and where.
use Rattle.std.specs.Prelude.{◌≡◌, ◌≢◌, ℕ, zero, suc, ◌+◌, ◌<◌, ◌≤◌, List, [], ◌∷◌, ◌++◌, map, ◌⊎◌, refl}
use Rattle.std.specs.List.{range_with_len, flat_map}
use Rattle.std.proofs.Common.{sym, ap, subst, inl, inr, arith, ⊎_elim}
use Rattle.race_laws.proofs.Touch.{same_or_not}
use Rattle.race_laws.specs.Standing.{IsIn}

pub in_left : {A : Type 0} (x : A) (xs ys : List A) → IsIn x xs → IsIn x (xs ++ ys)
in_left x [] ys h = absurd h
in_left x (z ∷ xs) ys (inl e) = inl e
in_left x (z ∷ xs) ys (inr h) = inr (in_left x xs ys h)

pub in_right : {A : Type 0} (x : A) (xs ys : List A) → IsIn x ys → IsIn x (xs ++ ys)
in_right x [] ys h = h
in_right x (z ∷ xs) ys h = inr (in_right x xs ys h)

pub in_cases : {A : Type 0} (x : A) (xs ys : List A) → IsIn x (xs ++ ys) → IsIn x xs ⊎ IsIn x ys
in_cases x [] ys h = inr h
in_cases x (z ∷ xs) ys (inl e) = inl (inl e)
in_cases {A = A} x (z ∷ xs) ys (inr h) = ⊎_elim (λ (k : IsIn x xs). inl (inr k)) (λ (k : IsIn x ys). inr k) (in_cases x xs ys h)

pub in_flat : {A B : Type 0} (f : A → List B) (y : B) (x : A) (xs : List A) → IsIn x xs → IsIn y (f x) → IsIn y (flat_map f xs)
in_flat f y x [] h k = absurd h
in_flat f y x (z ∷ xs) (inl e) k = in_left y (f z) (flat_map f xs) (subst (λ v. IsIn y (f v)) e k)
in_flat f y x (z ∷ xs) (inr h) k = in_right y (f z) (flat_map f xs) (in_flat f y x xs h k)

pub in_flat_back : {A B : Type 0} (f : A → List B) (y : B) (xs : List A) → IsIn y (flat_map f xs) → (x : A) × IsIn x xs × IsIn y (f x)
in_flat_back {A = A} f y [] h = absurd h
in_flat_back {A = A} f y (z ∷ xs) h = by (λ k. in_flat_back f y xs k) (in_cases y (f z) (flat_map f xs) h)
  where
    by : (IsIn y (flat_map f xs) → (x : A) × IsIn x xs × IsIn y (f x)) → IsIn y (f z) ⊎ IsIn y (flat_map f xs) → (x : A) × IsIn x (z ∷ xs) × IsIn y (f x)
    by ih (inl k) = (z, inl refl, k)
    by ih (inr k) = let r = ih k in (r.0, inr r.1, r.2)

pub in_map : {A B : Type 0} (f : A → B) (x : A) (xs : List A) → IsIn x xs → IsIn (f x) (map f xs)
in_map f x [] h = absurd h
in_map f x (z ∷ xs) (inl e) = inl (ap f e)
in_map f x (z ∷ xs) (inr h) = inr (in_map f x xs h)

pub in_map_back : {A B : Type 0} (f : A → B) (y : B) (xs : List A) → IsIn y (map f xs) → (x : A) × IsIn x xs × (y ≡ f x)
in_map_back f y [] h = absurd h
in_map_back f y (z ∷ xs) (inl e) = (z, inl refl, e)
in_map_back f y (z ∷ xs) (inr h) = let r = in_map_back f y xs h in (r.0, inr r.1, r.2)

pub in_range : (a n i : ℕ) → a ≤ i → i < a + n → IsIn i (range_with_len a n)
in_range a zero i h k = absurd (omega arith)
in_range a (suc n) i h k = by (cases a i h) (λ l. in_range (a + 1) n i l (omega arith))
  where
    cases : (a i : ℕ) → a ≤ i → (i ≡ a) ⊎ (a + 1 ≤ i)
    cases a i h = ⊎_elim (λ (e : i ≡ a). inl e) (λ (n : i ≢ a). inr (omega arith)) (same_or_not i a)

    by : (i ≡ a) ⊎ (a + 1 ≤ i) → (a + 1 ≤ i → IsIn i (range_with_len (a + 1) n)) → IsIn i (range_with_len a (suc n))
    by (inl e) f = inl e
    by (inr l) f = inr (f l)

pub in_range_back : (a n i : ℕ) → IsIn i (range_with_len a n) → (a ≤ i) × (i < a + n)
in_range_back a zero i h = absurd h
in_range_back a (suc n) i (inl e) = (omega arith, omega arith)
in_range_back a (suc n) i (inr h) = let r = in_range_back (a + 1) n i h in (omega arith, omega arith)

pub in_split : {A : Type 0} (x : A) (xs : List A) → IsIn x xs → (before : List A) × (after : List A) × (xs ≡ before ++ x ∷ after)
in_split x [] h = absurd h
in_split x (z ∷ xs) (inl e) = ([], xs, ap (λ v. v ∷ xs) (sym e))
in_split x (z ∷ xs) (inr h) = let r = in_split x xs h in (z ∷ r.0, r.1, ap (λ v. z ∷ v) r.2)

pub split_in : {A : Type 0} (x : A) (before after : List A) → IsIn x (before ++ x ∷ after)
split_in x before after = in_right x before (x ∷ after) (inl refl)

-- of two places of a list, they are one, or one stands before the other
pub splits_compare : {A : Type 0} (x y : A) (before after front rest : List A) → before ++ x ∷ after ≡ front ++ y ∷ rest → ((before ≡ front) × (x ≡ y)) ⊎ (IsIn x front ⊎ IsIn y before)
splits_compare x y [] after [] rest e = inl (refl, heads e)
  where
    heads : x ∷ after ≡ y ∷ rest → x ≡ y
    heads e = cc
splits_compare x y [] after (z ∷ front) rest e = inr (inl (inl (heads e)))
  where
    heads : x ∷ after ≡ z ∷ (front ++ y ∷ rest) → x ≡ z
    heads e = cc
splits_compare x y (z ∷ before) after [] rest e = inr (inr (inl (heads e)))
  where
    heads : z ∷ (before ++ x ∷ after) ≡ y ∷ rest → y ≡ z
    heads e = cc
splits_compare {A = A} x y (z ∷ before) after (v ∷ front) rest e = by (splits_compare x y before after front rest (tails e))
  where
    tails : z ∷ (before ++ x ∷ after) ≡ v ∷ (front ++ y ∷ rest) → before ++ x ∷ after ≡ front ++ y ∷ rest
    tails e = cc

    heads : z ∷ (before ++ x ∷ after) ≡ v ∷ (front ++ y ∷ rest) → z ≡ v
    heads e = cc

    by : ((before ≡ front) × (x ≡ y)) ⊎ (IsIn x front ⊎ IsIn y before) → ((z ∷ before ≡ v ∷ front) × (x ≡ y)) ⊎ (IsIn x (v ∷ front) ⊎ IsIn y (z ∷ before))
    by (inl h) = inl (conses h.0, h.1)
      where
        conses : before ≡ front → z ∷ before ≡ v ∷ front
        conses h = let k = heads e in cc
    by (inr (inl h)) = inr (inl (inr h))
    by (inr (inr h)) = inr (inr (inr h))
