-- What holds of the candidates of every hash.

use Rattle.std.proofs.Common.{◌≡◌, ◌≢◌, ℕ, zero, suc, ◌+◌, ◌*◌, ◌/◌, ◌%◌, ◌^◌, ◌<◌, ◌≤◌, ◌⊎◌, ⊎_elim, Bool, true, false, cond, List, [], ◌∷◌, length, get_or, refl, sym, subst, ◌∙◌, arith}
use Rattle.std.specs.Prelude.{◌==◌, Contains}
use Rattle.std.proofs.lemmas.Bool.{cases_eq}
use Rattle.std.proofs.lemmas.Bool.Decides.{nat_tests}
use Rattle.std.proofs.lemmas.Nat.{mod_below}
use Rattle.std.proofs.lemmas.List.{get_or_default}
use Rattle.node_words.specs.Addresses.{slot_at, bucket_header_at}
use Rattle.bucket_group.specs.Buckets.{main_place, overflow_place, neighbour, first_bucket, drawn_bucket, second_bucket, candidates, IsSlotPlace}
use Rattle.bucket_group.specs.PlaceLists.{length-places, index-places}

-- the main buckets of a hash are two of the table's
pub first_below : (groups hash : ℕ) → 0 < groups → first_bucket groups hash < 2 * groups
unfolding first_bucket
first_below groups hash h = mod_below (hash / 2 ^ 16) (2 * groups) (omega arith)

pub drawn_below : (groups hash : ℕ) → 0 < groups → drawn_bucket groups hash < 2 * groups
unfolding drawn_bucket
drawn_below groups hash h = mod_below (hash / 2 ^ 32) (2 * groups) (omega arith)

pub neighbour_below : (groups m : ℕ) → m < 2 * groups → neighbour m < 2 * groups
neighbour_below groups m h = grind (arith, nat_tests)

pub neighbour_apart : (m : ℕ) → neighbour m ≢ m
neighbour_apart m = ⊎_elim (λ (e : m % 2 ≡ 0) (x : neighbour m ≡ m). absurd (grind (arith, nat_tests))) (λ (e : m % 2 ≢ 0) (x : neighbour m ≡ m). absurd (grind (arith, nat_tests))) (cases_eq (m % 2) 0)

pub second_below : (groups hash : ℕ) → 0 < groups → second_bucket groups hash < 2 * groups
unfolding second_bucket
second_below groups hash h =
    let d = drawn_below groups hash h in let n = neighbour_below groups (first_bucket groups hash) (first_below groups hash h) in
    grind (arith, nat_tests)

pub second_drawn : (groups hash : ℕ) → drawn_bucket groups hash ≡ first_bucket groups hash → second_bucket groups hash ≡ neighbour (first_bucket groups hash)
unfolding second_bucket
second_drawn groups hash e = grind (arith, nat_tests)

pub second_own : (groups hash : ℕ) → drawn_bucket groups hash ≢ first_bucket groups hash → second_bucket groups hash ≡ drawn_bucket groups hash
unfolding second_bucket
second_own groups hash e = grind (arith, nat_tests)

pub second_apart : (groups hash : ℕ) → second_bucket groups hash ≢ first_bucket groups hash
unfolding second_bucket
second_apart groups hash =
    ⊎_elim (λ (e : drawn_bucket groups hash ≡ first_bucket groups hash) (x : second_bucket groups hash ≡ first_bucket groups hash). neighbour_apart (first_bucket groups hash) (sym (second_drawn groups hash e) ∙ x))
    (λ (e : drawn_bucket groups hash ≢ first_bucket groups hash) (x : second_bucket groups hash ≡ first_bucket groups hash). e (sym (second_own groups hash e) ∙ x))
    (cases_eq (drawn_bucket groups hash) (first_bucket groups hash))

-- 21 candidates where both main buckets share a group, else 28
pub length-candidates : (groups hash : ℕ) → length (candidates groups hash) ≡ cond (first_bucket groups hash / 2 == second_bucket groups hash / 2) 21 28
unfolding candidates
length-candidates groups hash =
    let n = length-places (main_place (first_bucket groups hash)) (overflow_place (first_bucket groups hash)) (main_place (second_bucket groups hash)) (overflow_place (second_bucket groups hash)) in
    grind (arith, nat_tests)

pub length-candidates_two : (groups hash : ℕ) → (length (candidates groups hash) ≡ 21) ⊎ (length (candidates groups hash) ≡ 28)
length-candidates_two groups hash = let n = length-candidates groups hash in grind (arith, nat_tests)

-- the first words of the four buckets, none of them the same
abbrev pub starts : ℕ → ℕ → List ℕ
starts a b = main_place a ∷ overflow_place a ∷ main_place b ∷ overflow_place b ∷ []

pub four_at_most : (v : Bool) (n : ℕ) → n ≡ cond v 3 4 → 4 < n → ⊥
four_at_most true n e h = omega arith
four_at_most false n e h = omega arith

-- where there is a fourth bucket the groups differ
pub shared : (a b n : ℕ) → n ≡ cond (a / 2 == b / 2) 3 4 → 3 < n → a / 2 ≡ b / 2 → ⊥
shared a b n e h k = grind (arith, nat_tests)

pub starts_apart : (a b k m n : ℕ) → a ≢ b → n ≡ cond (a / 2 == b / 2) 3 4 → k < n → m < n → get_or (starts a b) k 0 ≡ get_or (starts a b) m 0 → k ≡ m
starts_apart a b zero zero n h l o r e = refl
starts_apart a b zero (suc zero) n h l o r e = absurd (omega arith)
starts_apart a b zero (suc (suc zero)) n h l o r e = absurd (omega arith)
starts_apart a b zero (suc (suc (suc zero))) n h l o r e = absurd (omega arith)
starts_apart a b (suc zero) zero n h l o r e = absurd (omega arith)
starts_apart a b (suc zero) (suc zero) n h l o r e = refl
starts_apart a b (suc zero) (suc (suc zero)) n h l o r e = absurd (omega arith)
starts_apart a b (suc zero) (suc (suc (suc zero))) n h l o r e = absurd (shared a b n l (omega arith) (omega arith))
starts_apart a b (suc (suc zero)) zero n h l o r e = absurd (omega arith)
starts_apart a b (suc (suc zero)) (suc zero) n h l o r e = absurd (omega arith)
starts_apart a b (suc (suc zero)) (suc (suc zero)) n h l o r e = refl
starts_apart a b (suc (suc zero)) (suc (suc (suc zero))) n h l o r e = absurd (omega arith)
starts_apart a b (suc (suc (suc zero))) zero n h l o r e = absurd (omega arith)
starts_apart a b (suc (suc (suc zero))) (suc zero) n h l o r e = absurd (shared a b n l (omega arith) (omega arith))
starts_apart a b (suc (suc (suc zero))) (suc (suc zero)) n h l o r e = absurd (omega arith)
starts_apart a b (suc (suc (suc zero))) (suc (suc (suc zero))) n h l o r e = refl
starts_apart a b (suc (suc (suc (suc k)))) m n h l o r e = absurd (four_at_most (a / 2 == b / 2) n l (omega arith))
starts_apart a b k (suc (suc (suc (suc m)))) n h l o r e = absurd (four_at_most (a / 2 == b / 2) n l (omega arith))

-- the place of candidate i
pub index-candidates : (groups hash i : ℕ) → i < length (candidates groups hash) → get_or (candidates groups hash) i 0 ≡ get_or (starts (first_bucket groups hash) (second_bucket groups hash)) (i / 7) 0 + 1 + i % 7
unfolding candidates
index-candidates groups hash i h = index-places (main_place (first_bucket groups hash)) (overflow_place (first_bucket groups hash)) (main_place (second_bucket groups hash)) (overflow_place (second_bucket groups hash)) i h

-- the bucket of a candidate, of as many as there are
pub number_below : (a b i n : ℕ) → i < cond (a / 2 == b / 2) 21 28 → n ≡ cond (a / 2 == b / 2) 3 4 → i / 7 < n
number_below a b i n h e = grind (arith, nat_tests)

-- each first word is that of a bucket of the table
pub start_range : (groups a b k : ℕ) → a < 2 * groups → b < 2 * groups → k < 4 → (get_or (starts a b) k 0 % 8 ≡ 0) × (get_or (starts a b) k 0 + 8 ≤ 24 * groups)
start_range groups a b zero h l r = (omega arith, omega arith)
start_range groups a b (suc zero) h l r = (omega arith, omega arith)
start_range groups a b (suc (suc zero)) h l r = (omega arith, omega arith)
start_range groups a b (suc (suc (suc zero))) h l r = (omega arith, omega arith)
start_range groups a b (suc (suc (suc (suc k)))) h l r = absurd (omega arith)

pub slot_of_start : (groups p b i : ℕ) → p ≡ b + 1 + i % 7 → b % 8 ≡ 0 → b + 8 ≤ 24 * groups → IsSlotPlace groups p
slot_of_start groups p b i e h l = (omega arith, omega arith)

pub starts_eights : (a b k : ℕ) → get_or (starts a b) k 0 % 8 ≡ 0
starts_eights a b zero = omega arith
starts_eights a b (suc zero) = omega arith
starts_eights a b (suc (suc zero)) = omega arith
starts_eights a b (suc (suc (suc zero))) = omega arith
starts_eights a b (suc (suc (suc (suc k)))) = refl

pub same_start : (b c i j : ℕ) → b % 8 ≡ 0 → c % 8 ≡ 0 → b + 1 + i % 7 ≡ c + 1 + j % 7 → (b ≡ c) × (i % 7 ≡ j % 7)
same_start b c i j h l e = (omega arith, omega arith)

-- a candidate is the place of a slot of the table
pub candidate_slot : (groups hash i : ℕ) → 0 < groups → i < length (candidates groups hash) → IsSlotPlace groups (get_or (candidates groups hash) i 0)
candidate_slot groups hash i h l =
    let n = length-candidates_two groups hash in
    let k : i / 7 < 4 = grind arith in
    let e = index-candidates groups hash i l in
    let r = start_range groups (first_bucket groups hash) (second_bucket groups hash) (i / 7) (first_below groups hash h) (second_below groups hash h) k in
    slot_of_start groups (get_or (candidates groups hash) i 0) (get_or (starts (first_bucket groups hash) (second_bucket groups hash)) (i / 7) 0) i e r.0 r.1

-- the same of each element
pub candidates_slots : (groups hash p : ℕ) → 0 < groups → Contains (candidates groups hash) p → IsSlotPlace groups p
candidates_slots groups hash p h c =
    let e : get_or (candidates groups hash) c.0 0 ≡ p = get_or_default (candidates groups hash) c.0 0 p c.1 ∙ c.2 in
    subst (IsSlotPlace groups) e (candidate_slot groups hash c.0 h c.1)

-- no candidate stands twice
pub candidates_apart : (groups hash i j : ℕ) → i < length (candidates groups hash) → j < length (candidates groups hash) → get_or (candidates groups hash) i 0 ≡ get_or (candidates groups hash) j 0 → i ≡ j
candidates_apart groups hash i j h l e =
    let n = length-candidates groups hash in
    let x = index-candidates groups hash i h in let y = index-candidates groups hash j l in
    let d = starts_eights (first_bucket groups hash) (second_bucket groups hash) (i / 7) in
    let f = starts_eights (first_bucket groups hash) (second_bucket groups hash) (j / 7) in
    let s = same_start (get_or (starts (first_bucket groups hash) (second_bucket groups hash)) (i / 7) 0) (get_or (starts (first_bucket groups hash) (second_bucket groups hash)) (j / 7) 0) i j d f (sym x ∙ e ∙ y) in
    let k = starts_apart (first_bucket groups hash) (second_bucket groups hash) (i / 7) (j / 7) (cond (first_bucket groups hash / 2 == second_bucket groups hash / 2) 3 4)
    (λ q. second_apart groups hash (sym q)) refl
    (number_below (first_bucket groups hash) (second_bucket groups hash) i _ (subst (λ z. i < z) n h) refl)
    (number_below (first_bucket groups hash) (second_bucket groups hash) j _ (subst (λ z. j < z) n l) refl) s.0 in
    let m = s.1 in omega arith

-- the first candidate stands behind the header of the first main bucket
pub first_candidate : (groups hash : ℕ) → get_or (candidates groups hash) 0 0 ≡ main_place (first_bucket groups hash) + 1
first_candidate groups hash = let n = length-candidates_two groups hash in index-candidates groups hash 0 (grind arith) ∙ (omega arith)

pub first_header : (groups hash table : ℕ) → bucket_header_at table (first_bucket groups hash) + 1 ≡ slot_at table (get_or (candidates groups hash) 0 0)
first_header groups hash table = let e = first_candidate groups hash in omega arith
