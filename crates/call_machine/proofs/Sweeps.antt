-- A sweep that ends as Gone has lost fewer swaps than it might.
use Rattle.std.specs.Prelude.{◌≡◌, ℕ, zero, suc, ◌+◌, ◌<◌, ◌==◌, Bool, true, false, cond, List, [], Option, Some, None, refl}
use Rattle.std.proofs.Common.{arith}
use Rattle.slot_word.specs.declared.slots.Mark.{Mark}
use Rattle.slot_word.specs.declared.slots.Mark.TheVariants.{Live, Pending, Copied, Moved}
use Rattle.slot_word.specs.declared.slots.Slot.{Slot}
use Rattle.slot_word.specs.Slots.{slot_of}
use Rattle.kv_block.specs.Reading.{has_key, block_value}
use Rattle.verbs.specs.Programs.{Prog, Outcomes}
use Rattle.pass_text.specs.declared.job.Job.{Job}
use Rattle.pass_text.specs.declared.job.Opened.{Opened}
use Rattle.pass_text.specs.declared.passed.PassEnd.{PassEnd}
use Rattle.pass_text.specs.declared.passed.PassEnd.TheVariants.{Held, Clear, Gone, Spent}
use Rattle.pass_text.specs.declared.passed.Passed.{Passed}
use Rattle.pass_text.specs.Words.{count, concerns, left_in, is_own, candidate_at, has_own, is_first, is_filling, head_in, address_of}
use Rattle.pass_text.specs.Pass.{Seen, first_seen, after_lost, with_head, below, key_found, after_block, judge_slot, judge_once, judge, spare, scan, after_head, head_read, last, search, begin, on_header, pass, wants, is_moved, freed, noted}
use Rattle.call_machine.proofs.Ways.{either, words}

-- where it ends as Gone, `lost` is below `left`
abbrev pub GoneBelow : ℕ → ℕ → PassEnd → Type 0
GoneBelow left lost (Held h) = Unit {0}
GoneBelow left lost Clear = Unit {0}
GoneBelow left lost Gone = lost < left
GoneBelow left lost Spent = Unit {0}

module _ (j : Job) where
  abbrev Low : Seen → Type 0
  Low s = s.lost < left_in j.mode

  abbrev Keeps : Prog Passed → Type 0
  Keeps p = Outcomes (λ (p : Passed). GoneBelow (left_in j.mode) p.lost p.end) p

  keep_either : (v : Bool) (x y : Prog Passed) → (v ≡ true → Keeps x) → (v ≡ false → Keeps y) → Keeps (cond v x y)
  keep_either v x y h k = either (λ (p : Passed). GoneBelow (left_in j.mode) p.lost p.end) v x y h k

  module _ (i : ℕ) (s : Seen) (next : Seen → Prog Passed) (again : Seen → ℕ → Prog Passed) (goes : (r : Seen) → r.lost ≡ s.lost → Keeps (next r)) (loses : (found : ℕ) → Keeps (again (after_lost s) found)) where
    found-keep : (word : ℕ) (mark : Mark) (value : List ℕ) → Keeps (key_found j i s word mark value next again)
    found-keep word Live value = tt
    found-keep word Pending value = λ found. keep_either (found == word) (next s) (again (after_lost s) found) (λ v. goes s refl) (λ v. loses found)
    found-keep word Copied value = tt
    found-keep word Moved value = tt

    block-keep : (word : ℕ) (mark : Mark) (ws : List ℕ) → Keeps (after_block j i s word mark ws next again)
    block-keep word mark ws = keep_either (has_key ws j.key) _ (next s) (λ v. found-keep word mark (block_value ws)) (λ v. goes s refl)

    slot-keep : (word : ℕ) (o : Option Slot) → Keeps (judge_slot j i s word o next again)
    slot-keep word None = goes s refl
    slot-keep word (Some slot) =
        keep_either (concerns j slot) _ (next s)
        (λ v. keep_either (wants j s i slot slot.mark) _ _
        (λ w. words (λ (p : Passed). GoneBelow (left_in j.mode) p.lost p.end) slot.at slot.len slot.at [] _ (λ ws. block-keep word slot.mark ws))
        (λ w. keep_either (is_moved slot.mark) (next (noted s i word)) (next s) (λ u. goes (noted s i word) refl) (λ u. goes s refl)))
        (λ v. goes s refl)

    once-keep : (word : ℕ) → Keeps (judge_once j i s word next again)
    once-keep word = keep_either (word == 0) (next (freed s i)) (judge_slot j i s word (slot_of word) next again) (λ v. goes (freed s i) refl) (λ v. slot-keep word (slot_of word))

  abbrev Goes : (Seen → Prog Passed) → Type 0
  Goes next = (r : Seen) → Low r → Keeps (next r)

  judge-keep : (i n : ℕ) (s : Seen) (word : ℕ) (next : Seen → Prog Passed) → n ≡ spare j s → Low s → Goes next → Keeps (judge j n i s word next)
  judge-keep i zero s word next e low goes = once-keep i s next _ (λ r same. goes r (omega arith)) (λ found. tt) word
  judge-keep i (suc n) s word next e low goes =
      once-keep i s next _ (λ r same. goes r (omega arith)) (λ found. judge-keep i n (after_lost s) found next (omega arith) (omega arith) goes) word

  scan-keep : (n i : ℕ) (s : Seen) (next : Seen → Prog Passed) → Low s → Goes next → Keeps (scan j n i s next)
  scan-keep zero i s next low goes = goes s low
  scan-keep (suc n) i s next low goes =
      keep_either (is_own j (candidate_at j s.table i)) (scan j n (i + 1) s next) _
      (λ v. scan-keep n (i + 1) s next low goes)
      (λ v word. judge-keep i (spare j s) s word _ refl low (λ r lr. scan-keep n (i + 1) r next lr goes))

  after-keep : (s : Seen) (next : Seen → Prog Passed) (o : Option ℕ) → Low s → Goes next → Keeps (after_head j s next o)
  after-keep s next None low goes = tt
  after-keep s next (Some level) low goes = keep_either (has_own j s.table) _ _ (λ v. low) (λ v child. goes (below s child level) low)

  last-keep : (s : Seen) (next : Seen → Prog Passed) → Low s → Goes next → Keeps (last j next s)
  unfolding head_read
  last-keep s next low goes = λ w. after-keep (with_head s (head_in w)) next _ low goes

  search-keep : (n : ℕ) → Goes (search j n)
  unfolding search
  search-keep zero s low = scan-keep (count j) 0 s _ low (λ r lr. last-keep r _ lr (λ x y. tt))
  search-keep (suc n) s low = scan-keep (count j) 0 s _ low (λ r lr. last-keep r _ lr (search-keep n))

  module _ (some : 0 < left_in j.mode) where
    begin-keep : (o : Opened) (table : ℕ) → Keeps (begin j o table)
    begin-keep o table =
        keep_either (is_first j table) _ _ (λ v. search-keep j.geometry.max_depth (first_seen o table j.geometry.first_depth) some) (λ v w. search-keep j.geometry.max_depth _ some)

    header-keep : (table w : ℕ) → Keeps (on_header j table (head_in w))
    header-keep table w = keep_either (is_filling (head_in w).state) _ _ (λ v b. begin-keep _ _) (λ v. begin-keep _ table)

    pub pass-keep : (entry : Option ℕ) → Outcomes (λ (p : Passed). GoneBelow (left_in j.mode) p.lost p.end) (pass j entry)
    pass-keep (Some table) = λ w. header-keep (address_of table) w
    pass-keep None = λ depth table w. header-keep (address_of table) w
