-- Pieces of words: one of them, and one more.
use Rattle.std.proofs.Common.{◌≡◌, ℕ, zero, suc, ◌+◌, ◌-◌, ◌<◌, ◌≤◌, List, [], ◌∷◌, ◌++◌, length, take, drop, get_or, map, Some, refl, sym, ap, ◌∙◌, arith}
use Rattle.std.specs.Prelude.{slice_get, slice_index}
use Rattle.std.specs.List.{between}
use Rattle.std.proofs.lemmas.List.{drop-append-le, take-append-le, length-drop, drop_at, map-append}
use Rattle.std.proofs.lemmas.Slice.{between_to_end}
use Rattle.item_list.specs.Pieces.{pieces, IsCut}

pub length-pieces : (at : ℕ) (ws ends : List ℕ) → length (pieces at ws ends) ≡ length ends
length-pieces at ws [] = refl
length-pieces at ws (e ∷ ends) = ap suc (length-pieces e ws ends)

-- the piece at a place
pub piece-there : (at : ℕ) (ws ends : List ℕ) (i s t : ℕ) → i < length ends → s ≡ slice_index (at ∷ ends) i → t ≡ slice_index ends i → slice_get (pieces at ws ends) i ≡ Some (between s t ws)
piece-there at ws [] i s t low p q = absurd (omega arith)
piece-there at ws (e ∷ ends) zero s t low p q = λ j. Some (between (sym p j) (sym q j) ws)
piece-there at ws (e ∷ ends) (suc i) s t low p q = piece-there e ws ends i s t (omega arith) p q

pub cut-low : (at n : ℕ) (ends : List ℕ) → IsCut at n ends → at ≤ n
cut-low at n [] h = omega (arith, h)
cut-low at n (e ∷ ends) h = let a = cut-low e n ends h.1 in let b = h.0 in omega arith

pub cut-rises : (at n : ℕ) (ends : List ℕ) (i : ℕ) → IsCut at n ends → i < length ends → slice_index (at ∷ ends) i ≤ slice_index ends i
cut-rises at n [] i h low = absurd (omega arith)
cut-rises at n (e ∷ ends) zero h low = h.0
cut-rises at n (e ∷ ends) (suc i) h low = cut-rises e n ends i h.1 (omega arith)

pub cut-within : (at n : ℕ) (ends : List ℕ) (i : ℕ) → IsCut at n ends → i < length ends → slice_index ends i ≤ n
cut-within at n [] i h low = absurd (omega arith)
cut-within at n (e ∷ ends) zero h low = cut-low e n ends h.1
cut-within at n (e ∷ ends) (suc i) h low = cut-within e n ends i h.1 (omega arith)

pub cut-push : (at n m : ℕ) (ends : List ℕ) → IsCut at n ends → n ≤ m → IsCut at m (ends ++ m ∷ [])
cut-push at n m [] h l = (omega (arith, h, l), refl)
cut-push at n m (e ∷ ends) h l = (h.0, cut-push e n m ends h.1 l)

between-more : (a b : ℕ) (ws new : List ℕ) → a ≤ b → b ≤ length ws → between a b (ws ++ new) ≡ between a b ws
between-more a b ws new h l =
    let n = length-drop a ws in
    ap (λ (xs : List ℕ). take (b - a) xs) (drop-append-le a ws new (omega arith)) ∙ take-append-le (b - a) (drop a ws) new (omega (arith, n))

between-new : (a : ℕ) (ws new : List ℕ) → a ≡ length ws → between a (length (ws ++ new)) (ws ++ new) ≡ new
between-new a ws new h = between_to_end (ws ++ new) a (length (ws ++ new)) (omega arith) ∙ drop_at ws new a (sym h)

-- the pieces with one more
pub pieces-push : (at : ℕ) (ws new ends : List ℕ) → IsCut at (length ws) ends → pieces at (ws ++ new) (ends ++ length (ws ++ new) ∷ []) ≡ pieces at ws ends ++ new ∷ []
pieces-push at ws new [] h = ap (λ (p : List ℕ). p ∷ []) (between-new at ws new h)
pieces-push at ws new (e ∷ ends) h =
    let low = cut-low e (length ws) ends h.1 in
    λ j. between-more at e ws new h.0 low j ∷ pieces-push e ws new ends h.1 j

pub told-push : {X : Type 0} (told : List ℕ → X) (at : ℕ) (ws new ends all places : List ℕ) (n : ℕ) (x : X) → IsCut at (length ws) ends → all ≡ ws ++ new → n ≡ length all → places ≡ ends ++ n ∷ [] → told new ≡ x
    → map told (pieces at all places) ≡ map told (pieces at ws ends) ++ x ∷ []
told-push {X = X} told at ws new ends all places n x h a b c d =
    let m : n ≡ length (ws ++ new) = b ∙ ap (λ (xs : List ℕ). length xs) a in
    (λ j. map told (pieces at (a j) ((c ∙ ap (λ (k : ℕ). ends ++ k ∷ []) m) j)))
    ∙ ap (map told) (pieces-push at ws new ends h)
    ∙ map-append told (pieces at ws ends) (new ∷ [])
    ∙ ap (λ (y : X). map told (pieces at ws ends) ++ y ∷ []) d

drop-suc : {X : Type 0} (xs : List X) (i : ℕ) (x : X) → slice_get xs i ≡ Some x → drop i xs ≡ x ∷ drop (suc i) xs
drop-suc [] i x e = absurd (cc)
drop-suc (y ∷ ys) zero x e = let f : y ≡ x = cc in λ j. f j ∷ ys
drop-suc (y ∷ ys) (suc i) x e = drop-suc ys i x e

-- what is left from an item on
pub drop-step : {X : Type 0} (xs : List X) (i : ℕ) (x : X) → slice_get xs i ≡ Some x → drop i xs ≡ x ∷ drop (i + 1) xs
drop-step xs i x e = let n : suc i ≡ i + 1 = omega arith in drop-suc xs i x e ∙ ap (λ (k : ℕ). x ∷ drop k xs) n

-- an item of the front
pub slice_get-front : {X : Type 0} (xs : List X) (i n : ℕ) (x : X) → i < n → slice_get xs i ≡ Some x → slice_get (take n xs) i ≡ Some x
slice_get-front [] i n x h e = absurd (cc)
slice_get-front (y ∷ ys) i zero x h e = absurd (omega arith)
slice_get-front (y ∷ ys) zero (suc n) x h e = e
slice_get-front (y ∷ ys) (suc i) (suc n) x h e = slice_get-front ys i n x (omega arith) e

-- an item, as the element that is read
pub get_or-there : {X : Type 0} (xs : List X) (i : ℕ) (x : X) → slice_get xs i ≡ Some x → x ≡ get_or xs i x
get_or-there [] i x e = refl
get_or-there (y ∷ ys) zero x e = let f : y ≡ x = cc in sym f
get_or-there (y ∷ ys) (suc i) x e = get_or-there ys i x e
