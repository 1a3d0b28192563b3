-- The list of the slots of four buckets.

use Rattle.std.proofs.Common.{◌≡◌, ◌≢◌, ℕ, ◌+◌, ◌-◌, ◌/◌, ◌%◌, ◌<◌, ◌≤◌, inl, inr, ⊎_elim, Bool, true, false, cond, List, [], ◌∷◌, ◌++◌, length, get_or, refl, sym, ap, subst, ◌∙◌, arith}
use Rattle.std.specs.Prelude.{◌==◌, if◌then◌else◌}
use Rattle.std.proofs.lemmas.Bool.{cases_lt, cases_eq}
use Rattle.std.proofs.lemmas.Bool.Decides.{nat_tests}
use Rattle.std.proofs.lemmas.List.{get_or_append_left, get_or-append_right}
use Rattle.std.proofs.lemmas.List.FromFn.{get_or-range_with_len}
use Rattle.bucket_group.specs.Buckets.{slots_from, places_of, header_of, last_number, last_header_of}

-- the slots of one bucket, and of further ones
pub index-slots : (b i : ℕ) → i < 7 → get_or (slots_from b) i 0 ≡ b + 1 + i
index-slots b i h = get_or-range_with_len (b + 1) 7 i 0 h

pub index-slots_near : (b : ℕ) (rest : List ℕ) (i : ℕ) → i < 7 → get_or (slots_from b ++ rest) i 0 ≡ b + 1 + i
index-slots_near b rest i h = get_or_append_left (slots_from b) rest 0 i h ∙ index-slots b i h

pub index-slots_far : (b : ℕ) (rest : List ℕ) (i : ℕ) → 7 ≤ i → get_or (slots_from b ++ rest) i 0 ≡ get_or rest (i - 7) 0
index-slots_far b rest i h = get_or-append_right (slots_from b) rest 7 i 0 refl h

-- the last bucket's slots, where it is none of the others
pub index-slots_last : (v : Bool) (q i j : ℕ) → i < cond v 21 28 → 21 ≤ i → j ≡ i - 21 → get_or (cond v [] (slots_from q)) j 0 ≡ q + 1 + j
index-slots_last true q i j h k e = absurd (omega arith)
index-slots_last false q i j h k e = index-slots q j (omega arith)

-- four buckets, or three where the last is the second
pub length-places : (a p b q : ℕ) → length (places_of a p b q) ≡ cond (p == q) 21 28
unfolding places_of
length-places a p b q = elim (p == q) as (λ v. length (slots_from a ++ (slots_from p ++ (slots_from b ++ cond v [] (slots_from q)))) ≡ cond v 21 28) [ true ↦ refl | false ↦ refl ]

pub length-places_range : (a p b q : ℕ) → length (places_of a p b q) ≤ 28
length-places_range a p b q = let e = length-places a p b q in grind (arith, nat_tests)

-- the same number by its bucket and its slot there
pub by_parts : (starts : List ℕ) (b j k d m : ℕ) → d ≡ k → m ≡ j → get_or starts k 0 ≡ b → b + 1 + j ≡ get_or starts d 0 + 1 + m
by_parts starts b j k d m h l e = ap (λ n. n + 1 + j) (sym e ∙ ap (λ n. get_or starts n 0) (sym h)) ∙ ap (λ n. get_or starts d 0 + 1 + n) (sym l)

-- the slots behind the third bucket, the second and the first
abbrev pub after_third : ℕ → ℕ → List ℕ
after_third p q = if p == q then [] else slots_from q

abbrev pub after_second : ℕ → ℕ → ℕ → List ℕ
after_second p b q = slots_from b ++ after_third p q

abbrev pub after_first : ℕ → ℕ → ℕ → List ℕ
after_first p b q = slots_from p ++ after_second p b q

-- a number below 7, 14, 21 or none of them
pub by_sevens : {P : Type 0} (i : ℕ) → (i < 7 → P) → (7 ≤ i → i < 14 → P) → (14 ≤ i → i < 21 → P) → (21 ≤ i → P) → P
by_sevens i f g h k = elim (cases_lt i 7) [ inl a ↦ f a | inr a ↦ elim (cases_lt i 14) [ inl b ↦ g a b | inr b ↦ elim (cases_lt i 21) [ inl c ↦ h b c | inr c ↦ k c ] ] ]

-- the place of number i
pub index-places : (a p b q i : ℕ) → i < length (places_of a p b q) → get_or (places_of a p b q) i 0 ≡ get_or (a ∷ p ∷ b ∷ q ∷ []) (i / 7) 0 + 1 + i % 7
unfolding places_of
index-places a p b q i h =
    by_sevens i
    (λ k. let d : i / 7 ≡ 0 = omega arith in let m : i % 7 ≡ i = omega arith in
    index-slots_near a (after_first p b q) i k ∙ by_parts (a ∷ p ∷ b ∷ q ∷ []) a i 0 (i / 7) (i % 7) d m refl)
    (λ k l. let d : i / 7 ≡ 1 = omega arith in let m : i % 7 ≡ i - 7 = omega arith in
    index-slots_far a (after_first p b q) i k
    ∙ index-slots_near p (after_second p b q) (i - 7) (omega arith)
    ∙ by_parts (a ∷ p ∷ b ∷ q ∷ []) p (i - 7) 1 (i / 7) (i % 7) d m refl)
    (λ k l. let d : i / 7 ≡ 2 = omega arith in let m : i % 7 ≡ i - 7 - 7 = omega arith in
    index-slots_far a (after_first p b q) i (omega arith)
    ∙ index-slots_far p (after_second p b q) (i - 7) (omega arith)
    ∙ index-slots_near b (after_third p q) (i - 7 - 7) (omega arith)
    ∙ by_parts (a ∷ p ∷ b ∷ q ∷ []) b (i - 7 - 7) 2 (i / 7) (i % 7) d m refl)
    (λ k. let t = subst (λ z. i < z) (length-places a p b q) h in let r = length-places_range a p b q in
    let d : i / 7 ≡ 3 = omega arith in let m : i % 7 ≡ i - 7 - 7 - 7 = omega arith in
    index-slots_far a (after_first p b q) i (omega arith)
    ∙ index-slots_far p (after_second p b q) (i - 7) (omega arith)
    ∙ index-slots_far b (after_third p q) (i - 7 - 7) (omega arith)
    ∙ index-slots_last (p == q) q i (i - 7 - 7 - 7) t k (omega arith)
    ∙ by_parts (a ∷ p ∷ b ∷ q ∷ []) q (i - 7 - 7 - 7) 3 (i / 7) (i % 7) d m refl)

-- the first words of the buckets, from the places
pub header-0 : (a p b q : ℕ) → header_of (places_of a p b q) 0 ≡ a
header-0 a p b q = let n = length-places a p b q in let e = index-places a p b q 0 (grind (arith, nat_tests)) in omega arith

pub header-7 : (a p b q : ℕ) → header_of (places_of a p b q) 7 ≡ p
header-7 a p b q = let n = length-places a p b q in let e = index-places a p b q 7 (grind (arith, nat_tests)) in omega arith

pub header-14 : (a p b q : ℕ) → header_of (places_of a p b q) 14 ≡ b
header-14 a p b q = let n = length-places a p b q in let e = index-places a p b q 14 (grind (arith, nat_tests)) in omega arith

pub header-21 : (a p b q : ℕ) → p ≢ q → header_of (places_of a p b q) 21 ≡ q
header-21 a p b q h = let n = length-places a p b q in let e = index-places a p b q 21 (grind (arith, nat_tests)) in omega arith

pub short : (a p b q : ℕ) → p ≡ q → last_number (places_of a p b q) ≡ 7
short a p b q h = let n = length-places a p b q in grind (arith, nat_tests)

pub long : (a p b q : ℕ) → p ≢ q → last_number (places_of a p b q) ≡ 21
long a p b q h = let n = length-places a p b q in grind (arith, nat_tests)

pub header-last : (a p b q : ℕ) → last_header_of (places_of a p b q) ≡ q
header-last a p b q =
    ⊎_elim (λ (e : p ≡ q). ap (header_of (places_of a p b q)) (short a p b q e) ∙ header-7 a p b q ∙ e)
    (λ (e : p ≢ q). ap (header_of (places_of a p b q)) (long a p b q e) ∙ header-21 a p b q e) (cases_eq p q)

-- a function of four numbers
pub same_of_four : {X : Type 0} (f : ℕ → ℕ → ℕ → ℕ → X) {a b c d w x y z : ℕ} → a ≡ w → b ≡ x → c ≡ y → d ≡ z → f a b c d ≡ f w x y z
same_of_four f {a} {b} {c} {d} {w} {x} {y} {z} h k l m = ap (λ n. f n b c d) h ∙ ap (λ n. f w n c d) k ∙ ap (λ n. f w x n d) l ∙ ap (λ n. f w x y n) m

pub length-short : (a p b q : ℕ) → p ≡ q → length (places_of a p b q) ≡ 21
length-short a p b q h = let n = length-places a p b q in grind (arith, nat_tests)

pub length-long : (a p b q : ℕ) → p ≢ q → length (places_of a p b q) ≡ 28
length-long a p b q h = let n = length-places a p b q in grind (arith, nat_tests)
