-- Lists whose items stand in a relation, each to all behind it.
use Rattle.std.specs.Prelude.{ℕ, zero, suc, ◌+◌, ◌<◌, List, [], ◌∷◌, ◌++◌, map, refl}
use Rattle.std.specs.List.{range_with_len, flat_map}
use Rattle.std.proofs.Common.{sym, subst, inl, inr, arith, ⊎_elim}
use Rattle.race_laws.specs.Standing.{IsIn}
use Rattle.image_laws.specs.Pairwise.{Pairwise}
use Rattle.image_laws.proofs.Members.{in_cases, in_flat_back, in_map_back, in_range_back}

pub pairwise_append : {A : Type 0} (R : A → A → Type 0) (xs ys : List A) → Pairwise R xs → Pairwise R ys → ((x y : A) → IsIn x xs → IsIn y ys → R x y) → Pairwise R (xs ++ ys)
pairwise_append R [] ys h k c = k
pairwise_append {A = A} R (z ∷ xs) ys h k c = ((λ y a. ⊎_elim (λ (b : IsIn y xs). h.0 y b) (λ (b : IsIn y ys). c z y (inl refl) b) (in_cases y xs ys a)), pairwise_append R xs ys h.1 k (λ x y a b. c x y (inr a) b))

pub pairwise_flat : {A B : Type 0} (R : A → A → Type 0) (S : B → B → Type 0) (f : A → List B) (xs : List A) → Pairwise R xs → ((x : A) → IsIn x xs → Pairwise S (f x)) → ((x y : A) → IsIn x xs → IsIn y xs → R x y → (a b : B) → IsIn a (f x) → IsIn b (f y) → S a b) → Pairwise S (flat_map f xs)
pairwise_flat R S f [] h e c = tt
pairwise_flat R S f (z ∷ xs) h e c = pairwise_append S (f z) (flat_map f xs) (e z (inl refl))
    (pairwise_flat R S f xs h.1 (λ x a. e x (inr a)) (λ x y a b. c x y (inr a) (inr b)))
    (λ a b m n. let r = in_flat_back f b xs n in c z r.0 (inl refl) (inr r.1) (h.0 r.0 r.1) a b m r.2)

pub pairwise_map : {A B : Type 0} (R : A → A → Type 0) (S : B → B → Type 0) (f : A → B) (xs : List A) → Pairwise R xs → ((x y : A) → R x y → S (f x) (f y)) → Pairwise S (map f xs)
pairwise_map R S f [] h c = tt
pairwise_map R S f (z ∷ xs) h c = ((λ b n. let r = in_map_back f b xs n in subst (S (f z)) (sym r.2) (c z r.0 (h.0 r.0 r.1))), pairwise_map R S f xs h.1 c)

pub pairwise_range : (a n : ℕ) → Pairwise (λ i j. i < j) (range_with_len a n)
pairwise_range a zero = tt
pairwise_range a (suc n) = ((λ j h. let r = in_range_back (a + 1) n j h in let x = r.0 in omega arith), pairwise_range (a + 1) n)

pub pairwise_split : {A : Type 0} (R : A → A → Type 0) (x y : A) (before after : List A) → Pairwise R (before ++ x ∷ after) → IsIn y before → R y x
pairwise_split R x y [] after h a = absurd a
pairwise_split R x y (z ∷ before) after h (inl e) = subst (λ v. R v x) (sym e) (h.0 x (here x before after))
  where
    here : {A : Type 0} (x : A) (before after : List A) → IsIn x (before ++ x ∷ after)
    here x [] after = inl refl
    here x (z ∷ before) after = inr (here x before after)
pairwise_split R x y (z ∷ before) after h (inr a) = pairwise_split R x y before after h.1 a
