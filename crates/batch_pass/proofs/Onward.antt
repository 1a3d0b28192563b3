-- How a posted look goes on.
use Rattle.std.specs.Prelude.{◌≡◌, ℕ, zero, suc, ◌+◌, ◌<◌, ◌≤◌, true, false, cond, List, [], ◌∷◌, length, drop, take, slice_index, nat_lt, ◌==◌, Some, refl}
use Rattle.std.proofs.Common.{sym, ◌∙◌, ap, inl, inr, arith}
use Rattle.std.proofs.lemmas.List.{length-take, length-map, get_or-take}
use Rattle.std.proofs.lemmas.Bool.Decides.{nat_tests}
use Rattle.slot_word.specs.declared.slots.Slot.{Slot}
use Rattle.slot_word.specs.Slots.{slot_of}
use Rattle.kv_block.specs.Packing.{words_for}
use Rattle.kv_block.specs.Reading.{has_key, block_value}
use Rattle.node_words.specs.Addresses.{slot_at}
use Rattle.bucket_group.specs.Buckets.{candidates}
use Rattle.bucket_group.proofs.CandidateLaws.{length-candidates_two}
use Rattle.pass_text.specs.declared.job.Job.{Job}
use Rattle.pass_text.specs.declared.passed.Passed.{Passed}
use Rattle.pass_text.specs.Words.{candidate_at, concerns}
use Rattle.pass_text.specs.Pass.{Seen, passed, held, freed, noted, is_moved}
use Rattle.pass_laws.proofs.SameWords.{drop_at, drop_all}
use Rattle.post_text.specs.Posts.{Posts, ends, post, range}
use Rattle.post_text.specs.Look.{candidates_in, takes, after_block, judge_slot, judge, judge_all, scan, last, follow, search}
use Rattle.batch_pass.specs.Rest.{onward}

-- no words are of a key
no_words : (key : List ℕ) → has_key [] key ≡ false
unfolding has_key
no_words key = rw (none (words_for (length key))) refl
  where
    none : (n : ℕ) → nat_lt n 0 ≡ false
    none n = grind (arith, nat_tests)

-- a block of no words posts no read, and the look goes on at once
pub block-none : (j : Job) (i n at : ℕ) (s : Seen) (word : ℕ) (next : Seen → Posts Passed) → n ≡ 0 → post (Some at) (range at n) (λ ws. after_block j i s word ws next) ≡ next s
block-none j i n at s word next e = ap (λ k. post (Some at) (range at k) (λ ws. after_block j i s word ws next)) e ∙ ap (λ v. cond v (ends (passed j s (held (candidate_at j s.table i) word (block_value [])))) (next s)) (no_words j.key)

-- .. so a word that is taken, of such a block, is passed over
pub judge-none : (j : Job) (i : ℕ) (s : Seen) (word : ℕ) (slot : Slot) (next : Seen → Posts Passed) → (word == 0) ≡ false → slot_of word ≡ Some slot → concerns j slot ≡ true → takes s i slot slot.mark ≡ true → slot.len ≡ 0 → judge j i s word next ≡ next s
judge-none j i s word slot next nz e near taken none =
    ap (λ v. cond v (next (freed s i)) (judge_slot j i s word (slot_of word) next)) nz
    ∙ ap (λ o. judge_slot j i s word o next) e
    ∙ ap (λ v. cond v (cond (takes s i slot slot.mark) (post (Some slot.at) (range slot.at slot.len) (λ ws. after_block j i s word ws next)) (cond (is_moved slot.mark) (next (noted s i word)) (next s))) (next s)) near
    ∙ ap (λ v. cond v (post (Some slot.at) (range slot.at slot.len) (λ ws. after_block j i s word ws next)) (cond (is_moved slot.mark) (next (noted s i word)) (next s))) taken
    ∙ block-none j i slot.len slot.at s word next none

pub onward-same : (j : Job) (slots slots2 : List ℕ) (i i2 n n2 : ℕ) (s s2 : Seen) → slots ≡ slots2 → i ≡ i2 → n ≡ n2 → s ≡ s2 → onward j slots i n s ≡ onward j slots2 i2 n2 s2
onward-same j slots slots2 i i2 n n2 s s2 e f g h = λ d. onward j (e d) (f d) (g d) (h d)

-- the candidate of number i, and those after it
pub onward-judge : (j : Job) (slots : List ℕ) (i n : ℕ) (s : Seen) → i < length (candidates j.geometry.groups j.hash) → length (candidates j.geometry.groups j.hash) ≤ length slots → onward j slots i n s ≡ judge j i s (slice_index slots i) (onward j slots (i + 1) n)
unfolding onward
onward-judge j slots i n s low long =
    let count = length (candidates j.geometry.groups j.hash) in
    let size : i < length (take count slots) = let e = length-take count slots in omega arith in
    ap (λ ws. judge_all j ws i s (last j (follow j n))) (drop_at (take count slots) i size)
    ∙ ap (λ w. judge j i s w (λ r. judge_all j (drop (i + 1) (take count slots)) (i + 1) r (last j (follow j n)))) (get_or-take count slots i 0 low)

-- after the last one
pub onward-last : (j : Job) (slots : List ℕ) (i n : ℕ) (s : Seen) → length (candidates j.geometry.groups j.hash) ≤ i → onward j slots i n s ≡ last j (follow j n) s
unfolding onward
onward-last j slots i n s high =
    let count = length (candidates j.geometry.groups j.hash) in
    ap (λ ws. judge_all j ws i s (last j (follow j n))) (drop_all (take count slots) i (let e = length-take count slots in omega arith))

pub ruleset onwards = (onward-judge, onward-last)

-- the search in a table
pub search-follow : (j : Job) (n : ℕ) (s : Seen) → search j n s ≡ scan j s (last j (follow j n))
unfolding search
search-follow j zero s = refl
search-follow j (suc n) s = refl

pub ruleset searches = (search-follow)

-- the words of all candidates, of the 28 that were kept
pub gathered-all : (j : Job) (t i n k : ℕ) (slots words : List ℕ) (v s : Seen) → slots ≡ take 28 words → i ≡ 0 → n ≡ k → v ≡ s → onward j slots i n v ≡ judge_all j (take (length (candidates_in j t)) words) 0 s (last j (follow j k))
unfolding onward candidates_in
gathered-all j t i n k slots words v s e f g h =
    let ps = candidates j.geometry.groups j.hash in
    (λ d. onward j (e d) (f d) (g d) (h d))
    ∙ ap (λ ws. judge_all j ws 0 s (last j (follow j k))) (take_take (length ps) 28 words few ∙ ap (λ n. take n words) (sym (length-map ps (slot_at t))))
  where
    few : length (candidates j.geometry.groups j.hash) ≤ 28
    few = elim (length-candidates_two j.geometry.groups j.hash) [ inl e ↦ omega (arith, e) | inr e ↦ omega (arith, e) ]

    take_take : (n k : ℕ) (xs : List ℕ) → n ≤ k → take n (take k xs) ≡ take n xs
    take_take zero k xs h = refl
    take_take (suc n) zero xs h = absurd (omega arith)
    take_take (suc n) (suc k) [] h = refl
    take_take (suc n) (suc k) (x ∷ xs) h = ap (λ ys. x ∷ ys) (take_take n k xs (omega arith))

pub ruleset gathers = (gathered-all)
