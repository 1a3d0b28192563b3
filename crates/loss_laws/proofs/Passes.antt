-- The drops that a pass loses; a look ends as Held or Clear.
use Rattle.std.specs.Prelude.{◌≡◌, ℕ, zero, suc, ◌+◌, ◌-◌, ◌≤◌, ◌==◌, Bool, true, false, cond, List, [], Option, Some, None, refl}
use Rattle.std.proofs.Common.{arith, subst, sym}
use Rattle.slot_word.specs.declared.slots.Mark.{Mark}
use Rattle.slot_word.specs.declared.slots.Mark.TheVariants.{Live, Pending, Copied, Moved}
use Rattle.slot_word.specs.declared.slots.Slot.{Slot}
use Rattle.slot_word.specs.Slots.{slot_of}
use Rattle.kv_block.specs.Reading.{has_key, block_value}
use Rattle.verb_log.specs.declared.entry.Verb.TheVariants.{Read}
use Rattle.verbs.specs.Programs.{Prog}
use Rattle.pass_text.specs.declared.job.Job.{Job}
use Rattle.pass_text.specs.declared.job.PassMode.{PassMode}
use Rattle.pass_text.specs.declared.job.PassMode.TheVariants.{Look, Sweep, Walk}
use Rattle.pass_text.specs.declared.job.Opened.{Opened}
use Rattle.pass_text.specs.declared.passed.PassEnd.{PassEnd}
use Rattle.pass_text.specs.declared.passed.PassEnd.TheVariants.{Held, Clear, Gone, Spent}
use Rattle.pass_text.specs.declared.passed.Held.{Held as HeldWord}
use Rattle.pass_text.specs.declared.passed.Passed.{Passed}
use Rattle.pass_text.specs.Words.{count, concerns, left_in, is_sweep, is_own, candidate_at, own_table_in, has_own, is_first, is_filling, head_in, address_of}
use Rattle.pass_text.specs.Pass.{Seen, first_seen, after_lost, with_head, below, key_found, after_block, judge_slot, judge_once, judge, spare, scan, after_head, head_read, last, search, begin, on_header, pass, wants, is_moved, freed, noted}
use Rattle.loss_laws.specs.Loses.{Loses}
use Rattle.node_words.specs.Addresses.{table_words}
use Rattle.loss_laws.proofs.Rules.{counted, pick, words}

-- how many drops may still be lost after a pass
abbrev pub spare_after : ℕ → ℕ → PassEnd → ℕ
spare_after left lost (Held h) = left - lost
spare_after left lost Clear = left - lost
spare_after left lost Gone = left - lost
spare_after left lost Spent = 0

-- which ends there are
abbrev pub IsEndOf : PassMode → PassEnd → Type 0
IsEndOf Look Gone = ⊥
IsEndOf Look Spent = ⊥
IsEndOf _ _ = Unit {0}

abbrev pub PassLost : ℕ → PassMode → ℕ → Passed → Type 0
PassLost least mode n p = (least ≤ n + spare_after (left_in mode) p.lost p.end) × IsEndOf mode p.end

gone_ends : (mode : PassMode) → is_sweep mode ≡ true → IsEndOf mode Gone
gone_ends Look e = absurd (cc)
gone_ends (Sweep own left) e = tt
gone_ends Walk e = absurd (cc)

spent_ends : (mode : PassMode) → is_sweep mode ≡ true → IsEndOf mode Spent
spent_ends Look e = absurd (cc)
spent_ends (Sweep own left) e = tt
spent_ends Walk e = absurd (cc)

held_ends : (mode : PassMode) (h : HeldWord) → IsEndOf mode (Held h)
held_ends Look h = tt
held_ends (Sweep own left) h = tt
held_ends Walk h = tt

clear_ends : (mode : PassMode) → IsEndOf mode Clear
clear_ends Look = tt
clear_ends (Sweep own left) = tt
clear_ends Walk = tt

-- a pending word is wanted in a sweep alone
abbrev WantsSo : PassMode → Mark → Type 0
WantsSo mode Pending = is_sweep mode ≡ true
WantsSo mode Live = Unit {0}
WantsSo mode Copied = Unit {0}
WantsSo mode Moved = Unit {0}

wants_so : (j : Job) (s : Seen) (i : ℕ) (slot : Slot) (mark : Mark) → wants j s i slot mark ≡ true → WantsSo j.mode mark
wants_so j s i slot Live e = tt
wants_so j s i slot Pending e = e
wants_so j s i slot Copied e = tt
wants_so j s i slot Moved e = tt

own_sweeps : (j : Job) (table : ℕ) → has_own j table ≡ true → is_sweep j.mode ≡ true
unfolding has_own
own_sweeps j table e = by j.mode e
  where
    by : (mode : PassMode) → own_table_in mode table (table_words j.geometry) ≡ true → is_sweep mode ≡ true
    by Look e = absurd (cc)
    by (Sweep own left) e = refl
    by Walk e = absurd (cc)

module _ (j : Job) (least : ℕ) where
  abbrev E : ℕ → Passed → Type 0
  E n p = PassLost least j.mode n p

  -- so many swaps were lost
  abbrev Has : ℕ → Seen → Type 0
  Has n s = least ≤ n + (left_in j.mode - s.lost)

  abbrev Goes : (Seen → Prog Passed) → Type 0
  Goes next = (n : ℕ) (r : Seen) → Has n r → Loses E n (next r)

  module _ (i n : ℕ) (s : Seen) (next : Seen → Prog Passed) (again : Seen → ℕ → Prog Passed) (hn : Has n s) (goes : (r : Seen) → r.lost ≡ s.lost → Loses E n (next r)) (loses : is_sweep j.mode ≡ true → (found : ℕ) → Loses E (suc n) (again (after_lost s) found)) where
    found-loses : (word : ℕ) (mark : Mark) (value : List ℕ) → WantsSo j.mode mark → Loses E n (key_found j i s word mark value next again)
    found-loses word Live value w = (hn, held_ends j.mode _)
    found-loses word Pending value w = counted E n (candidate_at j s.table i) word 0 (next s) (λ found. again (after_lost s) found) (goes s refl) (loses w)
    found-loses word Copied value w = (hn, held_ends j.mode _)
    found-loses word Moved value w = (hn, held_ends j.mode _)

    block-loses : (word : ℕ) (mark : Mark) (ws : List ℕ) → WantsSo j.mode mark → Loses E n (after_block j i s word mark ws next again)
    block-loses word mark ws w = pick E n (has_key ws j.key) _ (next s) (λ v. found-loses word mark (block_value ws) w) (λ v. goes s refl)

    slot-loses : (word : ℕ) (o : Option Slot) → Loses E n (judge_slot j i s word o next again)
    slot-loses word None = goes s refl
    slot-loses word (Some slot) =
        pick E n (concerns j slot) _ (next s)
        (λ v. pick E n (wants j s i slot slot.mark) _ _
        (λ w. words E n slot.at slot.len slot.at [] _ (λ ws. block-loses word slot.mark ws (wants_so j s i slot slot.mark w)))
        (λ w. pick E n (is_moved slot.mark) (next (noted s i word)) (next s) (λ u. goes (noted s i word) refl) (λ u. goes s refl)))
        (λ v. goes s refl)

    once-loses : (word : ℕ) → Loses E n (judge_once j i s word next again)
    once-loses word = pick E n (word == 0) (next (freed s i)) (judge_slot j i s word (slot_of word) next again) (λ v. goes (freed s i) refl) (λ v. slot-loses word (slot_of word))

  same_lost : (n a b : ℕ) → a ≡ b → least ≤ n + (left_in j.mode - b) → least ≤ n + (left_in j.mode - a)
  same_lost n a b e h = subst (λ v. least ≤ n + (left_in j.mode - v)) (sym e) h

  one_more : (n left lost : ℕ) → least ≤ n + (left - lost) → least ≤ suc n + (left - (lost + 1))
  one_more n left lost h = omega arith

  last_one : (n left lost : ℕ) → 0 ≡ left - (lost + 1) → least ≤ n + (left - lost) → least ≤ suc n + 0
  last_one n left lost e h = omega arith

  one_fewer : (k left lost : ℕ) → suc k ≡ left - (lost + 1) → k ≡ left - (lost + 1 + 1)
  one_fewer k left lost e = omega arith

  judge-loses : (i k n : ℕ) (s : Seen) (word : ℕ) (next : Seen → Prog Passed) → k ≡ spare j s → Has n s → Goes next → Loses E n (judge j k i s word next)
  judge-loses i zero n s word next e hn goes =
      once-loses i n s next _ hn (λ r same. goes n r (same_lost n r.lost s.lost same hn)) (λ w found. (last_one n (left_in j.mode) s.lost e hn, spent_ends j.mode w)) word
  judge-loses i (suc k) n s word next e hn goes =
      once-loses i n s next _ hn (λ r same. goes n r (same_lost n r.lost s.lost same hn))
      (λ w found. judge-loses i k (suc n) (after_lost s) found next (one_fewer k (left_in j.mode) s.lost e) (one_more n (left_in j.mode) s.lost hn) goes) word

  scan-loses : (m i n : ℕ) (s : Seen) (next : Seen → Prog Passed) → Has n s → Goes next → Loses E n (scan j m i s next)
  scan-loses zero i n s next hn goes = goes n s hn
  scan-loses (suc m) i n s next hn goes =
      pick E n (is_own j (candidate_at j s.table i)) (scan j m (i + 1) s next) _
      (λ v. scan-loses m (i + 1) n s next hn goes)
      (λ v word. judge-loses i (spare j s) n s word _ refl hn (λ k r hr. scan-loses m (i + 1) k r next hr goes))

  after-loses : (n : ℕ) (s : Seen) (next : Seen → Prog Passed) (o : Option ℕ) → Has n s → Goes next → Loses E n (after_head j s next o)
  after-loses n s next None hn goes = (hn, clear_ends j.mode)
  after-loses n s next (Some level) hn goes = pick E n (has_own j s.table) _ _ (λ v. (hn, gone_ends j.mode (own_sweeps j s.table v))) (λ v child. goes n (below s child level) hn)

  last-loses : (n : ℕ) (s : Seen) (next : Seen → Prog Passed) → Has n s → Goes next → Loses E n (last j next s)
  unfolding head_read
  last-loses n s next hn goes = λ w. after-loses n (with_head s (head_in w)) next _ hn goes

  search-loses : (m : ℕ) → Goes (search j m)
  unfolding search
  search-loses zero n s hn = scan-loses (count j) 0 n s _ hn (λ k r hr. last-loses k r _ hr (λ k2 r2 h2. (h2, clear_ends j.mode)))
  search-loses (suc m) n s hn = scan-loses (count j) 0 n s _ hn (λ k r hr. last-loses k r _ hr (search-loses m))

  module _ (n : ℕ) (start : least ≤ n + left_in j.mode) where
    begin-loses : (o : Opened) (table : ℕ) → Loses E n (begin j o table)
    begin-loses o table =
        let begun : least ≤ n + (left_in j.mode - 0) = omega (arith, start) in
        pick E n (is_first j table) _ _ (λ v. search-loses j.geometry.max_depth n (first_seen o table j.geometry.first_depth) begun) (λ v w. search-loses j.geometry.max_depth n _ begun)

    header-loses : (table w : ℕ) → Loses E n (on_header j table (head_in w))
    header-loses table w = pick E n (is_filling (head_in w).state) _ _ (λ v b. begin-loses _ _) (λ v. begin-loses _ table)

    pub pass-loses : (entry : Option ℕ) → Loses E n (pass j entry)
    pass-loses (Some table) = λ w. header-loses (address_of table) w
    pass-loses None = λ depth table w. header-loses (address_of table) w
