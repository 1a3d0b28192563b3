-- Where a text is cut.
use Rattle.std.proofs.Common.{◌≡◌, ℕ, ◌+◌, ◌<◌, ◌≤◌, Bool, true, false, nat_eq, List, [], ◌∷◌, ◌++◌, length, take, drop, get_or, refl, sym, ap, subst, ◌∙◌, arith, suc, None}
use Rattle.std.proofs.Common.{drop-cons, take_all, take-append-drop, length-drop, add-one, ◌-◌}
use Rattle.std.proofs.lemmas.List.{take_more}
use Rattle.std.proofs.lemmas.List.Elements.{All-push}
use Rattle.std.proofs.lemmas.List.Splits.{slice_split_at, slice_split_none, slice_split-cons_yes, slice_split-cons_no}
use Rattle.std.specs.List.{All, onto_first}
use Rattle.spelling.specs.Words.{parts_at, one_of, two_of, is_empty}

-- a text is its front, the byte at a place, and what is behind it
pub parts-front : (bytes : List ℕ) (i : ℕ) → i < length bytes → bytes ≡ take i bytes ++ get_or bytes i 0 ∷ drop (suc i) bytes
parts-front bytes i h = sym (take-append-drop i bytes) ∙ ap (λ r. take i bytes ++ r) (drop-cons bytes i 0 h)

-- a text is cut at the first byte that is looked for
pub parts_at-cut : (c : ℕ) (bytes : List ℕ) (i : ℕ) → i < length bytes → All (λ b. nat_eq b c ≡ false) (take i bytes) → nat_eq (get_or bytes i 0) c ≡ true → parts_at c bytes ≡ take i bytes ∷ parts_at c (take (length bytes - (i + 1)) (drop (i + 1) bytes))
parts_at-cut c bytes i h none found =
    let rest = take_all (length bytes - (i + 1)) (drop (i + 1) bytes) (rw (length-drop (i + 1) bytes) (omega arith)) in
    ap (parts_at c) (parts-front bytes i h)
    ∙ slice_split_at (λ b. nat_eq b c) (take i bytes) (get_or bytes i 0) (drop (suc i) bytes) none found
    ∙ ap (λ r. take i bytes ∷ parts_at c r) (sym (rw (← add-one i) rest))

-- where no byte is looked for, the text is one part
pub parts_at-whole : (c : ℕ) (bytes : List ℕ) (i : ℕ) → length bytes ≤ i → All (λ b. nat_eq b c ≡ false) (take i bytes) → parts_at c bytes ≡ bytes ∷ []
parts_at-whole c bytes i h none = slice_split_none (λ b. nat_eq b c) bytes (subst (All (λ b. nat_eq b c ≡ false)) (take_all i bytes h) none)

-- a byte more is none of those
pub none-more : (c : ℕ) (bytes : List ℕ) (i : ℕ) → i < length bytes → All (λ b. nat_eq b c ≡ false) (take i bytes) → nat_eq (get_or bytes i 0) c ≡ false → All (λ b. nat_eq b c ≡ false) (take (i + 1) bytes)
none-more c bytes i h none other = subst (All (λ b. nat_eq b c ≡ false)) (sym (take_more bytes i 0 h)) (All-push (λ b. nat_eq b c ≡ false) (take i bytes) (get_or bytes i 0) none other)

-- a text has one part at least
pub parts_at-some : (c : ℕ) (bytes : List ℕ) → (p : List ℕ) × (ps : List (List ℕ)) × (parts_at c bytes ≡ p ∷ ps)
parts_at-some c [] = ([], [], refl)
parts_at-some c (b ∷ bs) = by (nat_eq b c) refl (parts_at-some c bs)
  where
    by : (t : Bool) → nat_eq b c ≡ t → (p : List ℕ) × (ps : List (List ℕ)) × (parts_at c bs ≡ p ∷ ps) → (p : List ℕ) × (ps : List (List ℕ)) × (parts_at c (b ∷ bs) ≡ p ∷ ps)
    by true e rest = ([], parts_at c bs, slice_split-cons_yes (λ x. nat_eq x c) b bs e)
    by false e rest = (b ∷ rest.0, rest.1, slice_split-cons_no (λ x. nat_eq x c) b bs e ∙ ap (onto_first b) rest.2)

-- where another part follows there is more than one word
pub one_of-more : (w : List ℕ) (c : ℕ) (bytes : List ℕ) → one_of (w ∷ parts_at c bytes) ≡ None
one_of-more w c bytes = let some = parts_at-some c bytes in ap (λ ps. one_of (w ∷ ps)) some.2

-- and more than two
pub two_of-more : (w v : List ℕ) (c : ℕ) (bytes : List ℕ) → two_of (w ∷ v ∷ parts_at c bytes) ≡ None
two_of-more w v c bytes = let some = parts_at-some c bytes in ap (λ ps. two_of (w ∷ v ∷ ps)) some.2

-- so it has not none
pub is_empty_parts : (c : ℕ) (bytes : List ℕ) → is_empty (parts_at c bytes) ≡ false
is_empty_parts c bytes = let some = parts_at-some c bytes in ap (λ (ps : List (List ℕ)). is_empty ps) some.2
