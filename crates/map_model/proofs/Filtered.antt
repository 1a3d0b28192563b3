-- Facts of each element of a list, and of the elements that pass a test.
use Rattle.std.proofs.Common.{◌≡◌, Bool, true, false, cond, List, [], ◌∷◌, ◌++◌, filter, refl, ap, ◌∙◌}
use Rattle.std.specs.List.{AllByRecursion}

module _ {X : Type 0} where
  pub weaker : (P Q : X → Type 0) → ((x : X) → P x → Q x) → (xs : List X) → AllByRecursion P xs → AllByRecursion Q xs
  weaker P Q f [] h = tt
  weaker P Q f (x ∷ xs) h = (f x h.0, weaker P Q f xs h.1)

  pub both : (P Q : X → Type 0) → (xs : List X) → AllByRecursion P xs → AllByRecursion Q xs → AllByRecursion (λ x. P x × Q x) xs
  both P Q [] h g = tt
  both P Q (x ∷ xs) h g = ((h.0, g.0), both P Q xs h.1 g.1)

  pub append_all : (P : X → Type 0) → (xs ys : List X) → AllByRecursion P xs → AllByRecursion P ys → AllByRecursion P (xs ++ ys)
  append_all P [] ys h g = g
  append_all P (x ∷ xs) ys h g = (h.0, append_all P xs ys h.1 g)

  -- what passes a test has the facts, and the test
  pub kept : (P : X → Type 0) (t : X → Bool) (xs : List X) → AllByRecursion P xs → AllByRecursion (λ x. P x × (t x ≡ true)) (filter t xs)
  kept P t [] h = tt
  kept P t (x ∷ xs) h = elim (t x) as (λ b. t x ≡ b → AllByRecursion (λ y. P y × (t y ≡ true)) (cond b (x ∷ filter t xs) (filter t xs))) [
    | true ↦ λ e. ((h.0, e), kept P t xs h.1)
    | false ↦ λ e. kept P t xs h.1
  ] refl

  pub filter_none : (t : X → Bool) (xs : List X) → AllByRecursion (λ x. t x ≡ false) xs → filter t xs ≡ []
  filter_none t [] h = refl
  filter_none t (x ∷ xs) h = ap (λ (b : Bool). cond b (x ∷ filter t xs) (filter t xs)) h.0 ∙ filter_none t xs h.1

  pub filter_all : (t : X → Bool) (xs : List X) → AllByRecursion (λ x. t x ≡ true) xs → filter t xs ≡ xs
  filter_all t [] h = refl
  filter_all t (x ∷ xs) h = ap (λ (b : Bool). cond b (x ∷ filter t xs) (filter t xs)) h.0 ∙ ap (λ (ys : List X). x ∷ ys) (filter_all t xs h.1)
