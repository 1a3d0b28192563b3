-- Lists that zeros fill up to a length.
use Rattle.std.proofs.Common.{◌≡◌, ℕ, ◌-◌, ◌≤◌, ◌++◌, List, length, take, replicate, refl, ap, ◌∙◌, arith}
use Rattle.std.proofs.lemmas.List.{length-take-le, length-append, length-replicate, take_at}

-- a list, then zeros up to a length
unfoldable pub filled : ℕ → List ℕ → List ℕ
filled n xs = xs ++ replicate (n - length xs) 0

-- the first bytes of an array are a text of this length, and the rest are zeros
pub record IsFilled (n len : ℕ) (bytes : List ℕ) : Type 0 where
  pub fits : len ≤ n
  pub long : length bytes ≡ n
  pub rest : filled n (take len bytes) ≡ bytes

-- the front of a filled array is as long as it says
pub length-take_filled : (n len : ℕ) (bytes : List ℕ) → IsFilled n len bytes → length (take len bytes) ≡ len
length-take_filled n len bytes h = length-take-le len bytes (let a = h.fits in let b = h.long in omega arith)

-- a list that is filled up has the length
pub length-filled : (n : ℕ) (xs : List ℕ) → length xs ≤ n → length (filled n xs) ≡ n
unfolding filled
length-filled n xs h = length-append xs _ ∙ rw (length-replicate {A = ℕ} (n - length xs) 0) (omega arith)

-- the front of a filled list is the list
pub take-filled : (n : ℕ) (xs : List ℕ) → take (length xs) (filled n xs) ≡ xs
unfolding filled
take-filled n xs = take_at xs _ _ refl

-- a filled list is an array that is filled up from that length on
pub IsFilled-filled : (n : ℕ) (xs : List ℕ) → length xs ≤ n → IsFilled n (length xs) (filled n xs)
IsFilled-filled n xs h = record { fits = h; long = length-filled n xs h; rest = ap (filled n) (take-filled n xs) }
