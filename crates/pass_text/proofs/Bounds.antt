-- A pass ends within so many verbs, whatever is answered.
use Rattle.std.proofs.Common.{sym, subst, inl, inr, ◌≡◌, ℕ, zero, suc, ◌+◌, ◌-◌, ◌*◌, ◌≤◌, Bool, true, false, cond, Option, Some, None, List, [], ◌∷◌, ◌++◌, refl, arith}
use Rattle.std.specs.Prelude.{◌==◌, ◌&&◌, nat_le}
use Rattle.std.proofs.lemmas.Bool.Decides.{nat_tests}
use Rattle.verbs.specs.Programs.{Prog, Within}
use Rattle.verbs.proofs.Progs.{Within-more}
use Rattle.slot_word.specs.declared.slots.Mark.{Mark}
use Rattle.slot_word.specs.declared.slots.Mark.TheVariants.{Live, Pending, Copied, Moved}
use Rattle.slot_word.specs.declared.slots.Slot.{Slot}
use Rattle.slot_word.specs.Slots.{slot_of}
use Rattle.bucket_group.proofs.CandidateLaws.{length-candidates_two}
use Rattle.pass_text.specs.declared.job.Job.{Job}
use Rattle.pass_text.specs.declared.job.Opened.{Opened}
use Rattle.pass_text.specs.declared.job.PassMode.{PassMode}
use Rattle.pass_text.specs.declared.job.PassMode.TheVariants.{Look, Sweep, Walk}
use Rattle.pass_text.specs.declared.passed.Passed.{Passed}
use Rattle.pass_text.specs.Words.{count, count_in, concerns, left_in, is_own, candidate_at, has_own, is_first, is_filling, head_in, address_of}
use Rattle.pass_text.specs.Pass.{Seen, first_seen, after_lost, with_head, below, read_words, key_found, after_block, judge_slot, judge_once, judge, spare, scan, after_head, head_read, last, search, begin, on_header, at_table, pass, wants, is_moved, freed, noted}
use Rattle.pass_text.specs.Bound.{pass_verbs}

-- one of two programs
either : {A : Type 0} (n : ℕ) (v : Bool) (p q : Prog A) → Within n p → (v ≡ false → Within n q) → Within n (cond v p q)
either n true p q h k = h
either n false p q h k = k refl

either_by : {A : Type 0} (n : ℕ) (v : Bool) (p q : Prog A) → (v ≡ true → Within n p) → Within n q → Within n (cond v p q)
either_by n true p q h k = h refl
either_by n false p q h k = k

words-within : {A : Type 0} (block n most total at : ℕ) (ws : List ℕ) (go_on : List ℕ → Prog A) → n + most ≤ total → ((ks : List ℕ) → Within most (go_on ks)) → Within total (read_words block n at ws go_on)
words-within block zero most total at ws go_on le h = Within-more most total (go_on ws) (omega arith) (h ws)
words-within block (suc n) most zero at ws go_on le h = absurd (omega arith)
words-within block (suc n) most (suc total) at ws go_on le h = λ w. words-within block n most total (at + 1) (ws ++ w ∷ []) go_on (omega arith) h

-- a block that is read has 137 words at most
few_by : (v : Bool) (n : ℕ) → (v && nat_le n 137) ≡ true → n ≤ 137
few_by true n e = grind (arith, nat_tests)
few_by false n e = absurd (cc)

few_words : (j : Job) (slot : Slot) → concerns j slot ≡ true → slot.len ≤ 137
unfolding concerns
few_words j slot e = few_by _ slot.len e

-- Judging a word, where what follows it does no more than `most` verbs, and what follows a lost drop no more either.
module _ (j : Job) (i most : ℕ) (s : Seen) (next : Seen → Prog Passed) (again : Seen → ℕ → Prog Passed) (goes : (r : Seen) → r.lost ≡ s.lost → Within most (next r)) (lost : (found : ℕ) → Within most (again (after_lost s) found)) where
  found-within : (word : ℕ) (mark : Mark) (value : List ℕ) → Within (suc most) (key_found j i s word mark value next again)
  found-within word Live value = tt
  found-within word Pending value = λ found. either most (found == word) (next s) (again (after_lost s) found) (goes s refl) (λ e. lost found)
  found-within word Copied value = tt
  found-within word Moved value = tt

  block-within : (word : ℕ) (mark : Mark) (ws : List ℕ) → Within (suc most) (after_block j i s word mark ws next again)
  block-within word mark ws =
      either (suc most) _ _ (next s) (found-within word mark _) (λ e. Within-more most (suc most) (next s) (omega arith) (goes s refl))

  goes_by : (total : ℕ) (r : Seen) → most ≤ total → r.lost ≡ s.lost → Within total (next r)
  goes_by total r le e = Within-more most total (next r) le (goes r e)

  slot-within : (total word : ℕ) (o : Option Slot) → 138 + most ≤ total → Within total (judge_slot j i s word o next again)
  slot-within total word None le = goes_by total s (omega arith) refl
  slot-within total word (Some slot) le =
      either_by total (concerns j slot) _ (next s)
      (λ e. let few = few_words j slot e in
      either total (wants j s i slot slot.mark) _ _
      (words-within slot.at slot.len (suc most) total slot.at [] _ (omega (arith, few, le)) (block-within word slot.mark))
      (λ f. either total (is_moved slot.mark) (next (noted s i word)) (next s) (goes_by total (noted s i word) (omega arith) refl) (λ g. goes_by total s (omega arith) refl)))
      (goes_by total s (omega arith) refl)

  once-within : (total word : ℕ) → 138 + most ≤ total → Within total (judge_once j i s word next again)
  once-within total word le =
      either total (word == 0) (next (freed s i)) (judge_slot j i s word (slot_of word) next again)
      (goes_by total (freed s i) (omega arith) refl) (λ e. slot-within total word (slot_of word) le)

-- what follows does no more than k verbs, and 138 for each drop that may still be lost before the last one
abbrev Goes : Job → ℕ → (Seen → Prog Passed) → Type 0
Goes j k next = (r : Seen) (total : ℕ) → k + 138 * spare j r ≤ total → Within total (next r)

judge-within : (j : Job) (i k n total : ℕ) (s : Seen) (word : ℕ) (next : Seen → Prog Passed) → n ≡ spare j s → Goes j k next → 138 + k + 138 * n ≤ total → Within total (judge j n i s word next)
judge-within j i k zero total s word next e goes le =
    once-within j i k s next _ (λ r same. goes r k (omega arith)) (λ found. tt) total word (omega arith)
judge-within j i k (suc n) total s word next e goes le =
    once-within j i (k + 138 * suc n) s next _ (λ r same. goes r (k + 138 * suc n) (omega arith))
    (λ found. judge-within j i k n (k + 138 * suc n) (after_lost s) found next (omega arith) goes (omega arith)) total word (omega arith)

scan-within : (j : Job) (k n i total : ℕ) (s : Seen) (next : Seen → Prog Passed) → Goes j k next → 139 * n + k + 138 * spare j s ≤ total → Within total (scan j n i s next)
scan-within j k zero i total s next goes le = goes s total (omega arith)
scan-within j k (suc n) i zero s next goes le = absurd (omega arith)
scan-within j k (suc n) i (suc total) s next goes le =
    either (suc total) (is_own j (candidate_at j s.table i)) (scan j n (i + 1) s next) _
    (scan-within j k n (i + 1) (suc total) s next goes (omega arith))
    (λ e word. judge-within j i (139 * n + k) (spare j s) total s word _ refl
    (λ r t room. scan-within j k n (i + 1) t r next goes room) (omega arith))

-- the key's header and the child word
after-within : (j : Job) (k total : ℕ) (s : Seen) (next : Seen → Prog Passed) (o : Option ℕ) → Goes j k next → 1 + k + 138 * spare j s ≤ total → Within total (after_head j s next o)
after-within j k total s next None goes le = tt
after-within j k zero s next (Some level) goes le = absurd (omega arith)
after-within j k (suc total) s next (Some level) goes le =
    either (suc total) (has_own j s.table) _ _ tt (λ e child. goes (below s child level) total (omega arith))

last-within : (j : Job) (k total : ℕ) (s : Seen) (next : Seen → Prog Passed) → Goes j k next → 2 + k + 138 * spare j s ≤ total → Within total (last j next s)
unfolding head_read
last-within j k zero s next goes le = absurd (omega arith)
last-within j k (suc total) s next goes le = λ w. after-within j k total (with_head s (head_in w)) next _ goes (omega arith)

count-few_in : (m : PassMode) (n : ℕ) → n ≤ 28 → count_in m n ≤ 28
count-few_in Look n h = h
count-few_in (Sweep own left) n h = h
count-few_in Walk n h = omega arith

-- no more than 28 candidates are read in a table
pub count-few : (j : Job) → count j ≤ 28
unfolding count
count-few j =
    let two = length-candidates_two j.geometry.groups j.hash in
    count-few_in j.mode _ (elim two [ inl e ↦ omega (arith, e) | inr e ↦ omega (arith, e) ])

-- a table takes 28 · 139 verbs for its candidates, of which each may be dropped, and two more
search-within : (j : Job) (n : ℕ) → Goes j (3894 * suc n) (search j n)
unfolding search
search-within j zero s total le =
    let few = count-few j in
    scan-within j 2 (count j) 0 total s _ (λ r t room. last-within j 0 t r _ (λ x y z. tt) (omega arith)) (omega (arith, few, le))
search-within j (suc n) s total le =
    let few = count-few j in
    scan-within j (2 + 3894 * suc n) (count j) 0 total s _ (λ r t room. last-within j (3894 * suc n) t r _ (search-within j n) (omega arith)) (omega (arith, few, le))

-- Before the search: the global depth, the directory word, the header and two births.
abbrev searched : Job → ℕ
searched j = 3894 * suc j.geometry.max_depth + 138 * (left_in j.mode - 1)

begin-within : (j : Job) (o : Opened) (table total : ℕ) → 1 + searched j ≤ total → Within total (begin j o table)
begin-within j o table zero le = absurd (omega arith)
begin-within j o table (suc total) le =
    either (suc total) (is_first j table) _ _
    (search-within j j.geometry.max_depth (first_seen o table j.geometry.first_depth) (suc total) (omega arith))
    (λ e w. search-within j j.geometry.max_depth _ total (omega arith))

header-within : (j : Job) (table total : ℕ) (w : ℕ) → 2 + searched j ≤ total → Within total (on_header j table (head_in w))
header-within j table zero w le = absurd (omega arith)
header-within j table (suc total) w le =
    either (suc total) (is_filling (head_in w).state) _ _
    (λ b. begin-within j _ _ total (omega arith))
    (λ e. begin-within j _ table (suc total) (omega arith))

table-within : (j : Job) (table total : ℕ) → 3 + searched j ≤ total → Within total (at_table j table)
table-within j table zero le = absurd (omega arith)
table-within j table (suc total) le = λ w. header-within j table total w (omega arith)

by_entry : (j : Job) (entry : Option ℕ) (total : ℕ) → 5 + searched j ≤ total → Within total (pass j entry)
by_entry j (Some table) total le = table-within j (address_of table) total (omega arith)
by_entry j None zero le = absurd (omega arith)
by_entry j None (suc zero) le = absurd (omega arith)
by_entry j None (suc (suc total)) le = λ depth table. table-within j (address_of table) total (omega arith)

-- a pass ends within so many verbs, whatever is answered
pub pass-within : (j : Job) (entry : Option ℕ) → j.geometry.max_depth ≤ 16 → Within (pass_verbs j) (pass j entry)
pass-within j entry deep = by_entry j entry (pass_verbs j) (omega arith)

-- .. and so does what is the same program
pub within_as-pass : (j : Job) (entry : Option ℕ) (p : Prog Passed) → p ≡ pass j entry → j.geometry.max_depth ≤ 16 → Within (pass_verbs j) p
within_as-pass j entry p e deep = subst (Within (pass_verbs j)) (sym e) (pass-within j entry deep)

pub ruleset bounds = (within_as-pass)
