-- Words in chunks: a chunk is made, and a word is put into it.
use Rattle.std.proofs.Common.{◌≡◌, ◌≢◌, ℕ, zero, suc, ◌/◌, ◌%◌, ◌<◌, ◌≤◌, ◌==◌, if◌then◌else◌, Bool, true, false, List, [], ◌∷◌, ◌++◌, length, slice_set, Vec, Option, Some, All, get_or, nat_eq, refl, sym, ap, ◌∙◌, inl, inr, arith}
use Rattle.std.specs.Prelude.{slice_get}
use Rattle.std.proofs.lemmas.Bool.{cases_eq, cases_lt}
use Rattle.std.proofs.lemmas.Bool.Decides.{nat_tests}
use Rattle.std.proofs.lemmas.List.{get_or-set_same, get_or-set_other, get_or_past}
use Rattle.std.specs.declared.alloc.Global.{Global}
use Rattle.sparse_words.specs.Chunks.{IsZero, IsEmpty, IsChunk, chunk_word}

pub get_set-same : {X : Type 0} (xs : List X) (i : ℕ) (d : X) → i < length xs → slice_get (slice_set xs i d) i ≡ Some d
get_set-same [] i d h = absurd (omega arith)
get_set-same (x ∷ xs) zero d h = refl
get_set-same (x ∷ xs) (suc i) d h = get_set-same xs i d (omega arith)

get_set-other : {X : Type 0} (xs : List X) (i k : ℕ) (d : X) → k ≢ i → slice_get (slice_set xs i d) k ≡ slice_get xs k
get_set-other [] i k d h = refl
get_set-other (x ∷ xs) zero zero d h = absurd (h refl)
get_set-other (x ∷ xs) zero (suc k) d h = refl
get_set-other (x ∷ xs) (suc i) zero d h = refl
get_set-other (x ∷ xs) (suc i) (suc k) d h = get_set-other xs i k d (λ e. h (ap suc e))

at_get : {X : Type 0} (xs : List X) (i : ℕ) (d : X) → i < length xs → slice_get xs i ≡ Some (get_or xs i d)
at_get [] i d h = absurd (omega arith)
at_get (x ∷ xs) zero d h = refl
at_get (x ∷ xs) (suc i) d h = at_get xs i d (omega arith)

pub there-at : {X : Type 0} (xs : List X) (i : ℕ) (v : X) → i < length xs → v ≡ get_or xs i v → slice_get xs i ≡ Some v
there-at xs i v low e = at_get xs i v low ∙ ap Some (sym e)

pub same-there : {X : Type 0} (o : Option X) (a b : X) → o ≡ Some a → o ≡ Some b → a ≡ b
same-there o a b e f = cc

pub get-there : {X : Type 0} (xs : List X) (i : ℕ) (d : X) → i < length xs → slice_get xs i ≡ Some d → get_or xs i d ≡ d
get-there xs i d low e = same-there (slice_get xs i) (get_or xs i d) d (at_get xs i d low) e

pub no-items : (n len : ℕ) → len ≡ n → nat_eq len 0 ≡ true → n ≡ 0
no-items n len e f = grind (arith, nat_tests)

pub whole-items : (n len : ℕ) → len ≡ n → nat_eq len 0 ≡ false → n % 8192 ≡ 0 → n ≤ 8192 → n ≡ 8192
whole-items n len e f g h = let some : len ≢ 0 = grind (arith, nat_tests) in omega arith

zeros : (xs : List ℕ) (k : ℕ) → All IsZero xs → get_or xs k 0 ≡ 0
zeros xs k h = elim (cases_lt k (length xs)) [
  | inl low ↦ h k 0 low
  | inr high ↦ get_or_past xs k 0 high
]

pub opened : (xs : List (Vec ℕ Global)) (i : ℕ) (c d : Vec ℕ Global) → i < length xs → slice_get xs i ≡ Some c → length c.items ≡ 0 → All IsZero d.items
    → (a : ℕ) → chunk_word (slice_get (slice_set xs i d) (a / 8192)) (a % 8192) ≡ chunk_word (slice_get xs (a / 8192)) (a % 8192)
opened xs i c d low there none nought a = elim (cases_eq (a / 8192) i) [
  | inl e ↦
      let k = a % 8192 in
      ap (λ (n : ℕ). chunk_word (slice_get (slice_set xs i d) n) k) e
      ∙ ap (λ (o : Option (Vec ℕ Global)). chunk_word o k) (get_set-same xs i d low)
      ∙ zeros d.items k nought
      ∙ sym (get_or_past c.items k 0 (omega (arith, none)))
      ∙ sym (ap (λ (o : Option (Vec ℕ Global)). chunk_word o k) there)
      ∙ sym (ap (λ (n : ℕ). chunk_word (slice_get xs n) k) e)
  | inr n ↦ ap (λ (o : Option (Vec ℕ Global)). chunk_word o (a % 8192)) (get_set-other xs i (a / 8192) d n)
]

same_place : (a at : ℕ) → a / 8192 ≡ at / 8192 → a % 8192 ≡ at % 8192 → a ≡ at
same_place a at e f = omega arith

picked : {X : Type 0} (t : Bool) (x y z : X) → t ≡ true → z ≡ x → z ≡ (if t then x else y)
picked true x y z e f = f
picked false x y z e f = absurd (cc)

passed : {X : Type 0} (t : Bool) (x y z : X) → t ≡ false → z ≡ y → z ≡ (if t then x else y)
passed true x y z e f = absurd (cc)
passed false x y z e f = f

pub put-word : (xs : List (Vec ℕ Global)) (at w : ℕ) (c d : Vec ℕ Global) → at / 8192 < length xs → slice_get xs (at / 8192) ≡ Some c → at % 8192 < length c.items
    → d.items ≡ slice_set c.items (at % 8192) w
    → (a : ℕ) → chunk_word (slice_get (slice_set xs (at / 8192) d) (a / 8192)) (a % 8192) ≡ (if a == at then w else chunk_word (slice_get xs (a / 8192)) (a % 8192))
put-word xs at w c d low there room is a = elim (cases_eq (a / 8192) (at / 8192)) [
  | inl e ↦
      let k = a % 8192 in
      let now : chunk_word (slice_get (slice_set xs (at / 8192) d) (a / 8192)) k ≡ get_or (slice_set c.items (at % 8192) w) k 0 =
      ap (λ (n : ℕ). chunk_word (slice_get (slice_set xs (at / 8192) d) n) k) e
      ∙ ap (λ (o : Option (Vec ℕ Global)). chunk_word o k) (get_set-same xs (at / 8192) d low)
      ∙ ap (λ (ys : List ℕ). get_or ys k 0) is in
      let old : chunk_word (slice_get xs (a / 8192)) k ≡ get_or c.items k 0 =
      ap (λ (n : ℕ). chunk_word (slice_get xs n) k) e ∙ ap (λ (o : Option (Vec ℕ Global)). chunk_word o k) there in
      elim (cases_eq k (at % 8192)) [
        | inl f ↦
            let same = same_place a at e f in
            let yes : (a == at) ≡ true = grind (arith, nat_tests, same) in
            picked _ _ _ _ yes (now ∙ ap (λ (n : ℕ). get_or (slice_set c.items (at % 8192) w) n 0) f ∙ get_or-set_same c.items (at % 8192) w 0 room)
        | inr g ↦
            let other : a ≢ at = λ q. g (ap (λ (n : ℕ). n % 8192) q) in
            let no : (a == at) ≡ false = grind (arith, nat_tests, other) in
            passed _ _ _ _ no (now ∙ get_or-set_other c.items (at % 8192) k w 0 g ∙ sym old)
      ]
  | inr n ↦
      let other : a ≢ at = λ q. n (ap (λ (n : ℕ). n / 8192) q) in
      let no : (a == at) ≡ false = grind (arith, nat_tests, other) in
      passed _ _ _ _ no (ap (λ (o : Option (Vec ℕ Global)). chunk_word o (a % 8192)) (get_set-other xs (at / 8192) (a / 8192) d n))
]

none-there : (xs : List (Vec ℕ Global)) (i k : ℕ) → ((j : ℕ) (d : Vec ℕ Global) → j < length xs → IsEmpty (get_or xs j d)) → chunk_word (slice_get xs i) k ≡ 0
none-there [] i k h = refl
none-there (x ∷ xs) zero k h = ap (λ (ys : List ℕ). get_or ys k 0) (h 0 x (omega arith))
none-there (x ∷ xs) (suc i) k h = none-there xs i k (λ j d l. h (suc j) d (omega arith))

pub zero-there : (xs : List (Vec ℕ Global)) → All IsEmpty xs → (a : ℕ) → chunk_word (slice_get xs (a / 8192)) (a % 8192) ≡ 0
zero-there xs h a = none-there xs (a / 8192) (a % 8192) h

chunk-empty : (c : Vec ℕ Global) → IsEmpty c → IsChunk c
chunk-empty c e = let n : length c.items ≡ 0 = ap (λ (ys : List ℕ). length ys) e in (omega (arith, n), omega (arith, n))

pub whole-empty : (xs : List (Vec ℕ Global)) → All IsEmpty xs → All IsChunk xs
whole-empty xs h j d l = chunk-empty (get_or xs j d) (h j d l)

-- one chunk more behind the others, which is empty
pub word-more : (xs : List (Vec ℕ Global)) (c : Vec ℕ Global) (i k : ℕ) → c.items ≡ [] → chunk_word (slice_get (xs ++ c ∷ []) i) k ≡ chunk_word (slice_get xs i) k
word-more [] c zero k e = ap (λ (ys : List ℕ). get_or ys k 0) e
word-more [] c (suc i) k e = refl
word-more (x ∷ xs) c zero k e = refl
word-more (x ∷ xs) c (suc i) k e = word-more xs c i k e

pub whole-more : (xs : List (Vec ℕ Global)) (c : Vec ℕ Global) → All IsChunk xs → c.items ≡ [] → All IsChunk (xs ++ c ∷ [])
whole-more [] c h e zero d l = chunk-empty c e
whole-more [] c h e (suc j) d l = absurd (omega arith)
whole-more (x ∷ xs) c h e zero d l = h 0 d (omega arith)
whole-more (x ∷ xs) c h e (suc j) d l = whole-more xs c (λ i f m. h (suc i) f (omega arith)) e j d (omega arith)

pub ruleset empties = (zero-there, whole-empty)

pub ruleset reaches = (word-more, whole-more)

pub ruleset opens = (opened)

pub ruleset puts = (put-word)

pub ruleset spares = (whole-items, no-items)
