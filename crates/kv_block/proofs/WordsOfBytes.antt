-- Words that are put into an array of zeros.
use Rattle.std.proofs.Common.{◌≡◌, ℕ, zero, suc, ◌+◌, ◌-◌, ◌*◌, ◌<◌, ◌≤◌, List, [], ◌∷◌, ◌++◌, length, take, drop, get_or, replicate, refl, sym, ap, ◌∙◌, subst, inl, inr, append_assoc, arith}
use Rattle.std.proofs.lemmas.Bool.{cases_lt}
use Rattle.std.proofs.lemmas.List.{get_or_append_left, get_or-append_right, get_or-drop, get_or-take, get_or_past, length-append, length-take-le, length-replicate, drop_at, drop-replicate, drop-drop}
use Rattle.std.proofs.lemmas.Slice.{take-put_mid}
use borrow.Rule.Slice.PartMut.{put_mid}
use Rattle.byteorder.specs.Endian.{little_from, little_number, IsRead}
use Rattle.kv_block.specs.Filled.{filled, IsFilled}
use Rattle.kv_block.specs.Packing.{words_of}

-- numbers of the same bytes
little_from-same : (n i : ℕ) (xs ys : List ℕ) → ((k : ℕ) → k < i + n → get_or xs k 0 ≡ get_or ys k 0) → little_from i n xs ≡ little_from i n ys
little_from-same zero i xs ys h = refl
little_from-same (suc n) i xs ys h = λ j. h i (omega arith) j + 256 * little_from-same n (suc i) xs ys (λ k l. h k (omega arith)) j

-- words of the same bytes
pub words_of-same : (n : ℕ) (xs ys : List ℕ) → ((k : ℕ) → k < 8 * n → get_or xs k 0 ≡ get_or ys k 0) → words_of n xs ≡ words_of n ys
words_of-same zero xs ys h = refl
words_of-same (suc n) xs ys h =
    let first = little_from-same 8 0 xs ys (λ k l. h k (omega arith)) in
    let later = words_of-same n (drop 8 xs) (drop 8 ys) (λ k l. get_or-drop 8 xs k 0 ∙ h (8 + k) (omega arith) ∙ sym (get_or-drop 8 ys k 0)) in
    λ j. first j ∷ later j

get_or-filled : (n k : ℕ) (xs : List ℕ) → get_or (filled n xs) k 0 ≡ get_or xs k 0
unfolding filled
get_or-filled n k xs = elim (cases_lt k (length xs)) [
  | inl low ↦ get_or_append_left xs (replicate (n - length xs) 0) 0 k low
  | inr high ↦ get_or-append_right xs (replicate (n - length xs) 0) (length xs) k 0 refl high ∙ zeros (n - length xs) (k - length xs) ∙ sym (get_or_past xs k 0 high)
]
  where
    zeros : (m j : ℕ) → let all : List ℕ = replicate m 0 in get_or all j 0 ≡ 0
    zeros zero j = refl
    zeros (suc m) zero = refl
    zeros (suc m) (suc j) = zeros m j

-- zeros past the end change no word
pub words_of-filled : (n m : ℕ) (xs : List ℕ) → words_of n (filled m xs) ≡ words_of n xs
words_of-filled n m xs = words_of-same n (filled m xs) xs (λ k l. get_or-filled m k xs)

pub words_of-take : (n : ℕ) (xs : List ℕ) → words_of n (take (8 * n) xs) ≡ words_of n xs
words_of-take n xs = words_of-same n (take (8 * n) xs) xs (λ k l. get_or-take (8 * n) xs k 0 l)

-- words that were read of bytes
pub words_of_read : (ws bs : List ℕ) → IsRead (λ n xs. little_number n xs) 8 bs ws → ws ≡ words_of (length ws) bs
words_of_read [] bs h = refl
words_of_read (w ∷ ws) bs h =
    let first : w ≡ little_number 8 bs = h 0 (omega arith) in
    let later = words_of_read ws (drop 8 bs) (λ k l. h (suc k) (omega arith) ∙ ap (little_number 8) (ap (λ (m : ℕ). drop m bs) (omega arith) ∙ sym (drop-drop (8 * k) 8 bs))) in
    λ j. first j ∷ later j

-- what lies behind the front of a filled array
drop-IsFilled : (n at : ℕ) (xs : List ℕ) → IsFilled n at xs → drop at xs ≡ replicate (n - at) 0
unfolding filled
drop-IsFilled n at xs h =
    let long : length (take at xs) ≡ at = length-take-le at xs (let a = h.fits in let b = h.long in omega arith) in
    let e = drop_at (take at xs) (replicate (n - length (take at xs)) 0) at long in
    subst (λ (ys : List ℕ). drop at ys ≡ replicate (n - at) 0) h.rest (e ∙ ap (λ (m : ℕ). replicate (n - m) 0) long)

-- an array that is filled up, with more behind its front
pub IsFilled-put : (n at k : ℕ) (xs ys : List ℕ) → IsFilled n at xs → length ys ≡ k → at + k ≤ n → IsFilled n (at + k) (put_mid at k xs ys)
unfolding filled
IsFilled-put n at k xs ys h e l =
    let long : length (take at xs) ≡ at = length-take-le at xs (let a = h.fits in let b = h.long in omega arith) in
    let back : drop k (drop at xs) ≡ replicate (n - at - k) 0 = ap (drop k) (drop-IsFilled n at xs h) ∙ drop-replicate k (n - at) 0 in
    let front = take-put_mid at k xs ys (at + k) (omega arith) (let a = h.fits in let b = h.long in omega arith) in
    let all : put_mid at k xs ys ≡ take at xs ++ (ys ++ replicate (n - at - k) 0) = ap (λ (zs : List ℕ). take at xs ++ (ys ++ zs)) back in
    let a = length-append (take at xs) (ys ++ replicate (n - at - k) 0) in
    let b = length-append ys (replicate (n - at - k) 0) in
    let c = length-replicate {A = ℕ} (n - at - k) 0 in
    let d = length-append (take at xs) ys in
    record {
      fits = l;
      long = ap length all ∙ omega (arith, a, b, c);
      rest = ap (filled n) front ∙ append_assoc (take at xs) ys (replicate (n - length (take at xs ++ ys)) 0)
          ∙ ap (λ (m : ℕ). take at xs ++ (ys ++ replicate m 0)) (omega (arith, d)) ∙ sym all;
    }

words_of-suc : (n : ℕ) (xs : List ℕ) → words_of (suc n) xs ≡ words_of n xs ++ little_number 8 (drop (8 * n) xs) ∷ []
words_of-suc zero xs = refl
words_of-suc (suc n) xs =
    let e : 8 + 8 * n ≡ 8 * suc n = omega arith in
    let d : drop (8 * n) (drop 8 xs) ≡ drop (8 * suc n) xs = drop-drop (8 * n) 8 xs ∙ ap (λ (m : ℕ). drop m xs) e in
    ap (λ (ws : List ℕ). little_number 8 xs ∷ ws) (words_of-suc n (drop 8 xs) ∙ ap (λ (ys : List ℕ). words_of n (drop 8 xs) ++ little_number 8 ys ∷ []) d)

pub words_of-next : (n : ℕ) (xs : List ℕ) → words_of (n + 1) xs ≡ words_of n xs ++ little_number 8 (drop (8 * n) xs) ∷ []
words_of-next n xs = let e : n + 1 ≡ suc n = omega arith in ap (λ (m : ℕ). words_of m xs) e ∙ words_of-suc n xs

pub number-part : (m : ℕ) (xs : List ℕ) → m ≡ 8 → little_number 8 (take m xs) ≡ little_number 8 xs
number-part m xs e = ap (λ (j : ℕ). little_number 8 (take j xs)) e ∙ little_from-same 8 0 (take 8 xs) xs (λ k l. get_or-take 8 xs k 0 l)

-- a number, and words behind it
pub two : (o : List ℕ) (f : ℕ) (a : List ℕ) → (o ++ f ∷ []) ++ a ≡ o ++ (f ∷ a)
two o f a = append_assoc o (f ∷ []) a

pub three : (o : List ℕ) (f : ℕ) (a b : List ℕ) → ((o ++ f ∷ []) ++ a) ++ b ≡ o ++ (f ∷ (a ++ b))
three o f a b = append_assoc (o ++ f ∷ []) a b ∙ append_assoc o (f ∷ []) (a ++ b)

pub ruleset one_more = (words_of-next)
