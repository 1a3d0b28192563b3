-- A pass ends within so many verbs and what its lost drops cost, whatever is answered.
use Rattle.std.specs.Prelude.{◌≡◌, ℕ, zero, suc, ◌+◌, ◌-◌, ◌*◌, ◌≤◌, ◌==◌, ◌&&◌, nat_le, Bool, true, false, List, [], Option, Some, None, refl}
use Rattle.std.proofs.Common.{arith}
use Rattle.std.proofs.lemmas.Bool.Decides.{nat_tests}
use Rattle.slot_word.specs.declared.slots.Mark.{Mark}
use Rattle.slot_word.specs.declared.slots.Mark.TheVariants.{Live, Pending, Copied, Moved}
use Rattle.slot_word.specs.declared.slots.Slot.{Slot}
use Rattle.slot_word.specs.Slots.{slot_of}
use Rattle.kv_block.specs.Reading.{has_key, block_value}
use Rattle.verbs.specs.Programs.{Prog, Costs}
use Rattle.verbs.proofs.Progs.{Costs-more}
use Rattle.pass_text.specs.declared.job.Job.{Job}
use Rattle.pass_text.specs.declared.job.Opened.{Opened}
use Rattle.pass_text.specs.declared.passed.Passed.{Passed}
use Rattle.pass_text.specs.Words.{count, concerns, left_in, is_own, candidate_at, has_own, is_first, is_filling, head_in, address_of}
use Rattle.pass_text.specs.Pass.{Seen, first_seen, after_lost, with_head, below, key_found, after_block, judge_slot, judge_once, judge, spare, scan, after_head, head_read, last, search, begin, on_header, at_table, pass, wants, is_moved, freed, noted}
use Rattle.pass_text.proofs.Bounds.{count-few}
use Rattle.call_bounds.specs.Bound.{loss_most, tables_most}
use Rattle.call_bounds.specs.Law.{PassesCost}
use Rattle.call_bounds.proofs.Costing.{either, words-costs}

-- a block that is read has 137 words at most
few_by : (v : Bool) (n : ℕ) → (v && nat_le n 137) ≡ true → n ≤ 137
few_by true n e = grind (arith, nat_tests)
few_by false n e = absurd (cc)

few_words : (j : Job) (slot : Slot) → concerns j slot ≡ true → slot.len ≤ 137
unfolding concerns
few_words j slot e = few_by _ slot.len e

module _ (j : Job) where
  -- what those may cost later that may still be lost, after so many
  abbrev spared : ℕ → ℕ
  spared lost = loss_most * (left_in j.mode - lost)

  abbrev cost : Passed → ℕ
  cost p = spared p.lost

  -- Judging a word, where what follows it costs no more than `most`, what follows a lost drop no more either, and the end no more.
  module _ (i most : ℕ) (s : Seen) (next : Seen → Prog Passed) (again : Seen → ℕ → Prog Passed) (goes : (r : Seen) → r.lost ≡ s.lost → Costs cost most (next r)) (lost : (found : ℕ) → Costs cost most (again (after_lost s) found)) (room : spared s.lost ≤ most) where
    found-costs : (word : ℕ) (mark : Mark) (value : List ℕ) → Costs cost (suc most) (key_found j i s word mark value next again)
    found-costs word Live value = omega (arith, room)
    found-costs word Pending value = λ found. either cost most (found == word) (next s) (again (after_lost s) found) (λ e. goes s refl) (λ e. lost found)
    found-costs word Copied value = omega (arith, room)
    found-costs word Moved value = omega (arith, room)

    block-costs : (word : ℕ) (mark : Mark) (ws : List ℕ) → Costs cost (suc most) (after_block j i s word mark ws next again)
    block-costs word mark ws =
        either cost (suc most) (has_key ws j.key) (key_found j i s word mark (block_value ws) next again) (next s) (λ e. found-costs word mark (block_value ws)) (λ e. Costs-more cost most (suc most) (next s) (omega arith) (goes s refl))

    goes_by : (total : ℕ) (r : Seen) → most ≤ total → r.lost ≡ s.lost → Costs cost total (next r)
    goes_by total r le e = Costs-more cost most total (next r) le (goes r e)

    slot-costs : (total word : ℕ) (o : Option Slot) → 138 + most ≤ total → Costs cost total (judge_slot j i s word o next again)
    slot-costs total word None le = goes_by total s (omega arith) refl
    slot-costs total word (Some slot) le =
        either cost total (concerns j slot) _ (next s)
        (λ e. let few = few_words j slot e in
        either cost total (wants j s i slot slot.mark) _ _
        (λ w. words-costs cost slot.at slot.len (suc most) total slot.at [] _ (omega (arith, few, le)) (block-costs word slot.mark))
        (λ f. either cost total (is_moved slot.mark) (next (noted s i word)) (next s) (λ g. goes_by total (noted s i word) (omega arith) refl) (λ g. goes_by total s (omega arith) refl)))
        (λ e. goes_by total s (omega arith) refl)

    once-costs : (total word : ℕ) → 138 + most ≤ total → Costs cost total (judge_once j i s word next again)
    once-costs total word le =
        either cost total (word == 0) (next (freed s i)) (judge_slot j i s word (slot_of word) next again)
        (λ e. goes_by total (freed s i) (omega arith) refl) (λ e. slot-costs total word (slot_of word) le)

  -- what follows costs no more than k verbs and what may still be lost
  abbrev Goes : ℕ → (Seen → Prog Passed) → Type 0
  Goes k next = (r : Seen) (total : ℕ) → k + spared r.lost ≤ total → Costs cost total (next r)

  judge-costs : (i k n total : ℕ) (s : Seen) (word : ℕ) (next : Seen → Prog Passed) → n ≡ spare j s → Goes k next → 138 + k + spared s.lost ≤ total → Costs cost total (judge j n i s word next)
  judge-costs i k zero total s word next e goes le =
      once-costs i (k + spared s.lost) s next _ (λ r same. goes r (k + spared s.lost) (omega arith)) (λ found. omega arith) (omega arith) total word (omega arith)
  judge-costs i k (suc n) total s word next e goes le =
      once-costs i (k + spared s.lost) s next _ (λ r same. goes r (k + spared s.lost) (omega arith))
      (λ found. judge-costs i k n (k + spared s.lost) (after_lost s) found next (omega arith) goes (omega arith)) (omega arith) total word (omega arith)

  scan-costs : (k n i total : ℕ) (s : Seen) (next : Seen → Prog Passed) → Goes k next → 139 * n + k + spared s.lost ≤ total → Costs cost total (scan j n i s next)
  scan-costs k zero i total s next goes le = goes s total (omega arith)
  scan-costs k (suc n) i zero s next goes le = absurd (omega arith)
  scan-costs k (suc n) i (suc total) s next goes le =
      either cost (suc total) (is_own j (candidate_at j s.table i)) (scan j n (i + 1) s next) _
      (λ e. scan-costs k n (i + 1) (suc total) s next goes (omega arith))
      (λ e word. judge-costs i (139 * n + k) (spare j s) total s word _ refl
      (λ r t room. scan-costs k n (i + 1) t r next goes room) (omega arith))

  -- the key's header and the child word
  after-costs : (k total : ℕ) (s : Seen) (next : Seen → Prog Passed) (o : Option ℕ) → Goes k next → 1 + k + spared s.lost ≤ total → Costs cost total (after_head j s next o)
  after-costs k total s next None goes le = omega (arith, le)
  after-costs k zero s next (Some level) goes le = absurd (omega arith)
  after-costs k (suc total) s next (Some level) goes le =
      either cost (suc total) (has_own j s.table) _ _ (λ e. omega (arith, le)) (λ e child. goes (below s child level) total (omega arith))

  last-costs : (k total : ℕ) (s : Seen) (next : Seen → Prog Passed) → Goes k next → 2 + k + spared s.lost ≤ total → Costs cost total (last j next s)
  unfolding head_read
  last-costs k zero s next goes le = absurd (omega arith)
  last-costs k (suc total) s next goes le = λ w. after-costs k total (with_head s (head_in w)) next _ goes (omega arith)

  -- a table takes 28 · 139 verbs for its candidates, of which each may be dropped, and two more
  search-costs : (n : ℕ) → Goes (3894 * suc n) (search j n)
  unfolding search
  search-costs zero s total le =
      let few = count-few j in
      scan-costs 2 (count j) 0 total s _ (λ r t room. last-costs 0 t r _ (λ x y z. omega (arith, z)) (omega arith)) (omega (arith, few, le))
  search-costs (suc n) s total le =
      let few = count-few j in
      scan-costs (2 + 3894 * suc n) (count j) 0 total s _ (λ r t room. last-costs (3894 * suc n) t r _ (search-costs n) (omega arith)) (omega (arith, few, le))

  -- Before the search: the global depth, the directory word, the header and two births.
  abbrev searched : ℕ
  searched = 3894 * suc j.geometry.max_depth + loss_most * left_in j.mode

  begin-costs : (o : Opened) (table total : ℕ) → 1 + searched ≤ total → Costs cost total (begin j o table)
  begin-costs o table zero le = absurd (omega arith)
  begin-costs o table (suc total) le =
      either cost (suc total) (is_first j table) _ _
      (λ e. search-costs j.geometry.max_depth (first_seen o table j.geometry.first_depth) (suc total) (omega arith))
      (λ e w. search-costs j.geometry.max_depth _ total (omega arith))

  header-costs : (table total w : ℕ) → 2 + searched ≤ total → Costs cost total (on_header j table (head_in w))
  header-costs table zero w le = absurd (omega arith)
  header-costs table (suc total) w le =
      either cost (suc total) (is_filling (head_in w).state) _ _
      (λ e b. begin-costs _ _ total (omega arith))
      (λ e. begin-costs _ table (suc total) (omega arith))

  table-costs : (table total : ℕ) → 3 + searched ≤ total → Costs cost total (at_table j table)
  table-costs table zero le = absurd (omega arith)
  table-costs table (suc total) le = λ w. header-costs table total w (omega arith)

  by_entry : (entry : Option ℕ) (total : ℕ) → 5 + searched ≤ total → Costs cost total (pass j entry)
  by_entry (Some table) total le = table-costs (address_of table) total (omega arith)
  by_entry None zero le = absurd (omega arith)
  by_entry None (suc zero) le = absurd (omega arith)
  by_entry None (suc (suc total)) le = λ depth table. table-costs (address_of table) total (omega arith)

-- a pass costs so much, whatever is answered
pub passes_cost : PassesCost
passes_cost j start = by_entry j start (tables_most j.geometry.max_depth + loss_most * left_in j.mode) (omega arith)
