-- How many verbs of a posted look are outstanding at once, and how many there are in all, whatever is answered.
use Rattle.std.specs.Prelude.{◌≡◌, ℕ, zero, suc, ◌+◌, ◌*◌, ◌≤◌, Bool, true, false, cond, ◌==◌, ◌&&◌, nat_le, List, [], ◌∷◌, length, map, slice_index, Option, Some, None, refl}
use Rattle.std.proofs.Common.{sym, ◌∙◌, ap, subst, inl, inr, arith}
use Rattle.std.proofs.lemmas.Bool.Decides.{nat_tests}
use Rattle.std.proofs.lemmas.List.{length-map}
use Rattle.slot_word.specs.declared.slots.Slot.{Slot}
use Rattle.slot_word.specs.Slots.{slot_of}
use Rattle.node_words.specs.Addresses.{slot_at, child_at, header_at, birth_at}
use Rattle.bucket_group.specs.Buckets.{candidates}
use Rattle.bucket_group.proofs.CandidateLaws.{length-candidates_two}
use Rattle.pass_text.specs.declared.job.Job.{Job}
use Rattle.pass_text.specs.declared.job.Opened.{Opened}
use Rattle.pass_text.specs.declared.passed.Passed.{Passed}
use Rattle.kv_block.specs.Reading.{has_key, block_value}
use Rattle.pass_text.specs.declared.passed.PassEnd.TheVariants.{Clear}
use Rattle.verb_log.specs.Decoded.{birth}
use Rattle.pass_text.specs.Words.{candidate_at, key_header_at, directory_word, concerns, head_in, address_of, is_first, is_filling, level_left}
use Rattle.pass_text.specs.Pass.{Seen, passed, held, first_seen, below, freed, noted, with_head, is_moved}
use Rattle.pass_text.specs.Bound.{most_verbs}
use Rattle.post_text.specs.Posts.{Posts, ends, posts, Posted, waits, has, waiting, words, fill, reads, post, post_one, range}
use Rattle.post_text.specs.Look.{candidates_in, takes, after_block, judge_slot, judge, judge_all, scan, after_head, head_read, last, search, begin, on_header, at_table, posted_look}
use Rattle.post_text.specs.Bound.{FewOf, EndsWithin, IsFew, IsShort}

-- few are outstanding, and it ends within n
abbrev pub Bounded : {A : Type 0} → ℕ → Posts A → Type 0
Bounded n p = FewOf 137 p × EndsWithin n p

either : {A : Type 0} (n : ℕ) (v : Bool) (p q : Posts A) → (v ≡ true → Bounded n p) → Bounded n q → Bounded n (cond v p q)
either n true p q h k = h refl
either n false p q h k = k

within_more : {A : Type 0} (n m : ℕ) (p : Posts A) → n ≤ m → EndsWithin n p → EndsWithin m p
within_more n m (ends a) le h = tt
within_more zero m (posts requests next) le h = absurd h
within_more (suc n) zero (posts requests next) le h = absurd (omega arith)
within_more (suc n) (suc m) (posts requests next) le h = λ i word. within_more n m (next i word) (omega arith) (h i word)

waiting_few : (block : Option ℕ) (xs : List Posted) → length (waiting block xs) ≤ length xs
waiting_few block [] = omega arith
waiting_few block (waits at ∷ xs) = let h = waiting_few block xs in omega arith
waiting_few block (has at w ∷ xs) = let h = waiting_few block xs in omega arith

fill_length : (xs : List Posted) (i word : ℕ) → length (fill xs i word) ≡ length xs
fill_length [] i word = refl
fill_length (has at w ∷ xs) i word = ap suc (fill_length xs i word)
fill_length (waits at ∷ xs) zero word = refl
fill_length (waits at ∷ xs) (suc i) word = ap suc (fill_length xs i word)

words_length : (xs : List Posted) → length (words xs) ≡ length xs
words_length [] = refl
words_length (waits at ∷ xs) = ap suc (words_length xs)
words_length (has at w ∷ xs) = ap suc (words_length xs)

reads_bounded : {A : Type 0} (block : Option ℕ) (n m most total : ℕ) (xs : List Posted) (go_on : List ℕ → Posts A) → length xs ≡ m → m ≤ 137 → n + most ≤ total → ((ws : List ℕ) → length ws ≡ m → Bounded most (go_on ws)) → Bounded total (reads block n xs go_on)
reads_bounded block zero m most total xs go_on e few le h = let b = h (words xs) (words_length xs ∙ e) in (b.0, within_more most total (go_on (words xs)) (omega arith) b.1)
reads_bounded block (suc n) m most zero xs go_on e few le h = absurd (omega arith)
reads_bounded block (suc n) m most (suc total) xs go_on e few le h =
    let w = waiting_few block xs in (
      ((omega arith), λ i word. (reads_bounded block n m most total (fill xs i word) go_on (fill_length xs i word ∙ e) few (omega arith) h).0),
      λ i word. (reads_bounded block n m most total (fill xs i word) go_on (fill_length xs i word ∙ e) few (omega arith) h).1,
    )

-- reads that are posted together
post_bounded : {A : Type 0} (block : Option ℕ) (ats : List ℕ) (m most total : ℕ) (go_on : List ℕ → Posts A) → length ats ≡ m → m ≤ 137 → m + most ≤ total → ((ws : List ℕ) → length ws ≡ m → Bounded most (go_on ws)) → Bounded total (post block ats go_on)
post_bounded block ats m most total go_on e few le h = reads_bounded block (length ats) m most total (map waits ats) go_on (length-map ats waits ∙ e) few (omega arith) h

one_bounded : {A : Type 0} (at most total : ℕ) (go_on : ℕ → Posts A) → 1 + most ≤ total → ((w : ℕ) → Bounded most (go_on w)) → Bounded total (post_one at go_on)
one_bounded at most total go_on le h = post_bounded None (at ∷ []) 1 most total (λ ws. go_on (slice_index ws 0)) refl (omega arith) le (λ ws e. h (slice_index ws 0))

pub range_length : (n at : ℕ) → length (range at n) ≡ n
range_length zero at = refl
range_length (suc n) at = ap suc (range_length n (suc at))

few_by : (v : Bool) (n : ℕ) → (v && nat_le n 137) ≡ true → n ≤ 137
few_by true n e = grind (arith, nat_tests)
few_by false n e = absurd (cc)

-- a block whose words are posted has 137 words at most
pub few_words : (j : Job) (slot : Slot) → concerns j slot ≡ true → slot.len ≤ 137
unfolding concerns
few_words j slot e = few_by _ slot.len e

module _ (j : Job) where
  -- what follows ends within so many
  abbrev Goes : ℕ → (Seen → Posts Passed) → Type 0
  Goes most next = (r : Seen) (total : ℕ) → most ≤ total → Bounded total (next r)

  block_bounded : (i most : ℕ) (s : Seen) (word : ℕ) (ws : List ℕ) (next : Seen → Posts Passed) → Goes most next → Bounded most (after_block j i s word ws next)
  block_bounded i most s word ws next goes =
      either most (has_key ws j.key) (ends (passed j s (held (candidate_at j s.table i) word (block_value ws)))) (next s) (λ g. (tt {0}, tt {0})) (goes s most (omega arith))

  slot_bounded : (i most total : ℕ) (s : Seen) (word : ℕ) (o : Option Slot) (next : Seen → Posts Passed) → Goes most next → 137 + most ≤ total → Bounded total (judge_slot j i s word o next)
  slot_bounded i most total s word None next goes le = goes s total (omega arith)
  slot_bounded i most total s word (Some slot) next goes le =
      either total (concerns j slot) _ (next s)
      (λ e. let few = few_words j slot e in
      either total (takes s i slot slot.mark) _ _
      (λ f. post_bounded (Some slot.at) (range slot.at slot.len) slot.len most total (λ ws. after_block j i s word ws next) (range_length slot.len slot.at) few (omega arith)
      (λ ws e2. block_bounded i most s word ws next goes))
      (either total (is_moved slot.mark) (next (noted s i word)) (next s) (λ f. goes (noted s i word) total (omega arith)) (goes s total (omega arith))))
      (goes s total (omega arith))

  judge_bounded : (i most total : ℕ) (s : Seen) (word : ℕ) (next : Seen → Posts Passed) → Goes most next → 137 + most ≤ total → Bounded total (judge j i s word next)
  judge_bounded i most total s word next goes le =
      either total (word == 0) (next (freed s i)) (judge_slot j i s word (slot_of word) next) (λ e. goes (freed s i) total (omega arith)) (slot_bounded i most total s word (slot_of word) next goes le)

  all_bounded : (ws : List ℕ) (i most total : ℕ) (s : Seen) (next : Seen → Posts Passed) → Goes most next → 137 * length ws + most ≤ total → Bounded total (judge_all j ws i s next)
  all_bounded [] i most total s next goes le = goes s total (omega arith)
  all_bounded (word ∷ ws) i most total s next goes le =
      judge_bounded i (137 * length ws + most) total s word (λ r. judge_all j ws (i + 1) r next) (λ r t room. all_bounded ws (i + 1) most t r next goes room) (omega arith)

  few_candidates : (table : ℕ) → length (candidates_in j table) ≤ 28
  unfolding candidates_in
  few_candidates table =
      let m = length-map (candidates j.geometry.groups j.hash) (slot_at table) in
      let two = length-candidates_two j.geometry.groups j.hash in
      elim two [ inl e ↦ omega (arith, e, m) | inr e ↦ omega (arith, e, m) ]

  -- a table takes 28 verbs for its candidates, 137 for a block of each, and two more
  scan_bounded : (most total : ℕ) (s : Seen) (next : Seen → Posts Passed) → Goes most next → 3864 + most ≤ total → Bounded total (scan j s next)
  scan_bounded most total s next goes le =
      let few = few_candidates s.table in
      post_bounded None (candidates_in j s.table) (length (candidates_in j s.table)) (3836 + most) total (λ ws. judge_all j ws 0 s next) refl (omega arith) (omega arith)
      (λ ws e. all_bounded ws 0 most (3836 + most) s next goes (omega arith))

  after_bounded : (most total : ℕ) (s : Seen) (next : Seen → Posts Passed) (o : Option ℕ) → Goes most next → 1 + most ≤ total → Bounded total (after_head j s next o)
  after_bounded most total s next None goes le = (tt, tt)
  after_bounded most total s next (Some level) goes le = one_bounded (child_at s.table level) most total (λ child. next (below s child level)) le (λ child. goes (below s child level) most (omega arith))

  last_bounded : (most total : ℕ) (next : Seen → Posts Passed) → Goes most next → 2 + most ≤ total → (s : Seen) → Bounded total (last j next s)
  unfolding head_read
  last_bounded most total next goes le s =
      one_bounded (key_header_at j s.table) (1 + most) total (λ w. head_read j next s (head_in w)) (omega arith)
      (λ w. after_bounded most (1 + most) (with_head s (head_in w)) next (level_left j.hash s.birth_depth (head_in w)) goes (omega arith))

  search_bounded : (n : ℕ) → Goes (3866 * suc n) (search j n)
  unfolding search
  search_bounded zero s total le =
      scan_bounded 2 total s (last j (λ r. ends (passed j r Clear))) (λ r t room. last_bounded 0 t (λ x. ends (passed j x Clear)) (λ x y z. (tt, tt)) (omega arith) r) (omega arith)
  search_bounded (suc n) s total le =
      scan_bounded (2 + 3866 * suc n) total s (last j (search j n)) (λ r t room. last_bounded (3866 * suc n) t (search j n) (search_bounded n) (omega arith) r) (omega arith)

  -- before the search: the global depth, the directory word, the header and two births
  abbrev searched : ℕ
  searched = 3866 * suc j.geometry.max_depth

  begin_bounded : (o : Opened) (table total : ℕ) → 1 + searched ≤ total → Bounded total (begin j o table)
  begin_bounded o table total le =
      either total (is_first j table) (search j j.geometry.max_depth (first_seen o table j.geometry.first_depth)) (post_one (birth_at table) (λ w. search j j.geometry.max_depth (first_seen o table (birth w).depth)))
      (λ e. search_bounded j.geometry.max_depth (first_seen o table j.geometry.first_depth) total (omega arith))
      (one_bounded (birth_at table) searched total (λ w. search j j.geometry.max_depth (first_seen o table (birth w).depth)) le
      (λ w. search_bounded j.geometry.max_depth (first_seen o table (birth w).depth) searched (omega arith)))

  header_bounded : (table total w : ℕ) → 2 + searched ≤ total → Bounded total (on_header j table (head_in w))
  header_bounded table total w le =
      let o : Opened = record { table = table; head = head_in w } in
      either total (is_filling (head_in w).state) (post_one (birth_at table) (λ b. begin j o (birth b).parent)) (begin j o table)
      (λ e. one_bounded (birth_at table) (1 + searched) total (λ b. begin j o (birth b).parent) (omega arith) (λ b. begin_bounded o (birth b).parent (1 + searched) (omega arith)))
      (begin_bounded o table total (omega arith))

  table_bounded : (table total : ℕ) → 3 + searched ≤ total → Bounded total (at_table j table)
  table_bounded table total le = one_bounded (header_at table) (2 + searched) total (λ w. on_header j table (head_in w)) (omega arith) (λ w. header_bounded table (2 + searched) w (omega arith))

  look_bounded : (start : Option ℕ) (total : ℕ) → 5 + searched ≤ total → Bounded total (posted_look j start)
  look_bounded (Some table) total le = table_bounded (address_of table) total (omega arith)
  look_bounded None total le =
      one_bounded 1 (4 + searched) total (λ depth. post_one (directory_word j depth) (λ table. at_table j (address_of table))) (omega arith)
      (λ depth. one_bounded (directory_word j depth) (3 + searched) (4 + searched) (λ table. at_table j (address_of table)) (omega arith)
      (λ table. table_bounded (address_of table) (3 + searched) (omega arith)))

pub is_few : IsFew
is_few j start = (look_bounded j start (5 + searched j) (omega arith)).0

pub is_short : IsShort
is_short j start = (look_bounded j start (most_verbs j.geometry.max_depth) (omega arith)).1

-- .. and so of what is the same text
pub few_as_look : (j : Job) (start : Option ℕ) (text : Posts Passed) → text ≡ posted_look j start → FewOf 137 text
few_as_look j start text e = subst (FewOf 137) (sym e) (is_few j start)

pub short_as_look : (j : Job) (start : Option ℕ) (text : Posts Passed) → text ≡ posted_look j start → EndsWithin (most_verbs j.geometry.max_depth) text
short_as_look j start text e = subst (EndsWithin (most_verbs j.geometry.max_depth)) (sym e) (is_short j start)

pub ruleset counts = (few_as_look, short_as_look)
