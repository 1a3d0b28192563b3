-- One more number in an array that zeros fill up.
use Rattle.std.proofs.Common.{◌≡◌, ℕ, zero, suc, ◌+◌, ◌-◌, ◌<◌, List, [], ◌∷◌, ◌++◌, length, take, replicate, sym, ap, ◌∙◌, append_assoc, arith}
use Rattle.std.proofs.lemmas.List.{length-set, length-take-le, length_push, take_more_set}
use Rattle.std.proofs.Math.ListN.{set}
use Rattle.kv_block.specs.Filled.{filled, IsFilled}

-- a number put behind the front of an array that zeros fill up
set_behind : (xs : List ℕ) (m : ℕ) (x : ℕ) → 0 < m → let zeros : ℕ → List ℕ = λ k. replicate k 0 in set (xs ++ zeros m) (length xs) x ≡ xs ++ x ∷ zeros (m - 1)
set_behind [] zero x h = absurd (omega arith)
set_behind [] (suc m) x h = λ i. x ∷ replicate (less i) 0
  where
    less : m ≡ suc m - 1
    less = omega arith
set_behind (y ∷ ys) m x h = λ i. y ∷ set_behind ys m x h i

-- the array with the number is filled up behind it
pub IsFilled-set : (n len : ℕ) (xs : List ℕ) (x : ℕ) → IsFilled n len xs → len < n → IsFilled n (len + 1) (set xs len x)
unfolding filled
IsFilled-set n len xs x h l =
    let long : length (take len xs) ≡ len = length-take-le len xs (let a = h.fits in let b = h.long in omega arith) in
    let front = take_more_set xs len x (let b = h.long in omega arith) in
    let more = length_push (take len xs) x in
    let behind = set_behind (take len xs) (n - length (take len xs)) x (omega arith) in
    let same : set xs len x ≡ set (take len xs ++ replicate (n - length (take len xs)) 0) (length (take len xs)) x = sym (λ i. set (h.rest i) (long i) x) in
    record {
      fits = omega arith;
      long = length-set xs len x ∙ h.long;
      rest = ap (filled n) front ∙ append_assoc (take len xs) (x ∷ []) (replicate (n - length (take len xs ++ x ∷ [])) 0)
          ∙ ap (λ (m : ℕ). take len xs ++ x ∷ replicate m 0) (omega (arith, more)) ∙ sym behind ∙ sym same;
    }
