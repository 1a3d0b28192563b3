-- What a header shows of a level, as the text tests it; and what a test leaves of a list.
use Rattle.std.specs.Prelude.{◌≡◌, ℕ, ◌<◌, ◌≤◌, Bool, true, false, cond, nat_lt, nat_le, List, [], ◌∷◌, filter, Option, Some, None, refl}
use Rattle.std.proofs.Common.{subst, inl, inr, arith, ⊎_elim}
use Rattle.std.proofs.lemmas.Bool.Decides.{nat_tests}
use Rattle.verb_log.specs.Decoded.{Header, PlainAt, SplittingAt, FillingAt, NoHeader}
use Rattle.race_laws.specs.Standing.{IsGone, IsIn}
use Rattle.pass_laws.proofs.ListPass.{shows_gone, exit_by}

-- what a header shows
pub gone_test : (h : Header) (i : ℕ) → shows_gone h i ≡ true → IsGone h i
gone_test (PlainAt d) i e = let x : i < d = grind (arith, nat_tests, e) in x
gone_test (SplittingAt d) i e = let x : i ≤ d = grind (arith, nat_tests, e) in x
gone_test (FillingAt d) i e = let x : i < d = grind (arith, nat_tests, e) in x
gone_test NoHeader i e = cc

pub test_gone : (h : Header) (i : ℕ) → IsGone h i → shows_gone h i ≡ true
test_gone (PlainAt d) i g = lt i d g
  where
    lt : (i d : ℕ) → i < d → nat_lt i d ≡ true
    lt i d g = grind (arith, nat_tests)
test_gone (SplittingAt d) i g = le i d g
  where
    le : (i d : ℕ) → i ≤ d → nat_le i d ≡ true
    le i d g = grind (arith, nat_tests)
test_gone (FillingAt d) i g = lt i d g
  where
    lt : (i d : ℕ) → i < d → nat_lt i d ≡ true
    lt i d g = grind (arith, nat_tests)
test_gone NoHeader i g = absurd g

pub exit_none : (h : Header) (o : Option ℕ) → exit_by h o ≡ None → (i : ℕ) → o ≡ Some i → IsGone h i → ⊥
exit_none h None e i q g = cc
exit_none h (Some j) e i q g = by (shows_gone h j) (test_gone h j (subst (IsGone h) (same q) g)) e
  where
    same : Some j ≡ Some i → i ≡ j
    same q = cc

    by : (v : Bool) → v ≡ true → cond v (Some j) None ≡ None → ⊥
    by true t e = cc
    by false t e = cc

pub exit_some : (h : Header) (o : Option ℕ) (i : ℕ) → exit_by h o ≡ Some i → (o ≡ Some i) × IsGone h i
exit_some h None i e = absurd (cc)
exit_some h (Some j) i e = by (shows_gone h j) refl e
  where
    by : (v : Bool) → shows_gone h j ≡ v → cond v (Some j) None ≡ Some i → (Some j ≡ Some i) × IsGone h i
    by true t e = (e, subst (IsGone h) (same e) (gone_test h j t))
      where
        same : Some j ≡ Some i → j ≡ i
        same e = cc
    by false t e = absurd (cc)

-- what a test leaves of a list stood in it
pub filter_in : (f : ℕ → Bool) (xs : List ℕ) (p : ℕ) → IsIn p (filter f xs) → IsIn p xs
filter_in f [] p h = h
filter_in f (x ∷ xs) p h = by (λ k. filter_in f xs p k) (f x) h
  where
    by : (IsIn p (filter f xs) → IsIn p xs) → (v : Bool) → IsIn p (cond v (x ∷ filter f xs) (filter f xs)) → IsIn p (x ∷ xs)
    by rest true h = ⊎_elim (λ (q : p ≡ x). inl q) (λ (q : IsIn p (filter f xs)). inr (rest q)) h
    by rest false h = inr (rest h)
