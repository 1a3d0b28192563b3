-- A sweep ends as Gone only in the table of its own slot; and an outcome that a text has whatever is answered, in a safe program.
use Rattle.std.specs.Prelude.{◌≡◌, ℕ, zero, suc, ◌+◌, Bool, true, false, cond, ◌==◌, List, [], ◌∷◌, ◌++◌, Option, Some, None, refl}
use Rattle.slot_word.specs.declared.slots.Mark.{Mark}
use Rattle.slot_word.specs.declared.slots.Mark.TheVariants.{Live, Pending, Copied, Moved}
use Rattle.slot_word.specs.declared.slots.Slot.{Slot}
use Rattle.slot_word.specs.Slots.{slot_of}
use Rattle.kv_block.specs.Reading.{has_key, block_value}
use Rattle.verb_log.specs.Decoded.{birth}
use Rattle.verb_log.specs.Tables.{Past}
use Rattle.verbs.specs.Programs.{do_verb, ask_hash, Prog, ret, ask, Outcomes}
use Rattle.race_laws.specs.Setting.{Setting, hash}
use Rattle.pass_text.specs.declared.job.Job.{Job}
use Rattle.pass_text.specs.declared.job.Opened.{Opened}
use Rattle.pass_text.specs.declared.passed.Passed.{Passed}
use Rattle.pass_text.specs.declared.passed.PassEnd.TheVariants.{Clear, Gone, Spent}
use Rattle.pass_text.specs.Words.{address_of, head_in, is_filling, is_first, candidate_at, count, is_own, has_own, concerns, level_left}
use Rattle.pass_text.specs.Pass.{Seen, first_seen, below, freed, noted, after_lost, with_head, passed, wants, is_moved, read_words, key_found, after_block, judge_slot, judge_once, judge, spare, scan, after_head, head_read, last, search, begin, at_table, pass}
use Rattle.pass_laws.specs.SafeIn.{Rule, SafeBy}
use Rattle.pass_laws.proofs.Rules.{by_do_map}

-- what the text says of each outcome holds of the outcome of a safe program
pub by_outcomes : {A : Type 0} (R : Rule) (s : Setting) (c : ℕ) (P : A → Type 0) (q : Past) (p : Prog A) (End : Past → A → Type 0) → Outcomes P p → SafeBy R s c q p End → SafeBy R s c q p (λ y a. End y a × P a)
by_outcomes R s c P q (ret a) End o h = (h, o)
by_outcomes R s c P q (ask (ask_hash key) k) End o h = by_outcomes R s c P q (k (hash s key)) End (o (hash s key)) h
by_outcomes R s c P q (ask (do_verb block verb) k) End o h =
    (h.0, λ n l b. by_do_map R s c R (λ z e x. x) n block verb (λ z answer. SafeBy R s c z (k answer) End) (λ z answer. SafeBy R s c z (k answer) (λ y a. End y a × P a)) (λ z answer x. by_outcomes R s c P z (k answer) End (o answer) x) (h.1 n l b))

-- where the pass ended as Gone, the own slot is in the table that is told
abbrev pub OwnSo : Job → Passed → Type 0
OwnSo j p = p.end ≡ Gone → has_own j p.table ≡ true

either : {A : Type 0} (P : A → Type 0) (v : Bool) (x y : Prog A) → (v ≡ true → Outcomes P x) → (v ≡ false → Outcomes P y) → Outcomes P (cond v x y)
either P true x y f g = f refl
either P false x y f g = g refl

module _ (j : Job) where
  abbrev So : Prog Passed → Type 0
  So p = Outcomes (OwnSo j) p

  words_so : (block n at : ℕ) (ws : List ℕ) (go_on : List ℕ → Prog Passed) → ((v : List ℕ) → So (go_on v)) → So (read_words block n at ws go_on)
  words_so block zero at ws go_on f = f ws
  words_so block (suc n) at ws go_on f = λ w. words_so block n (at + 1) (ws ++ w ∷ []) go_on f

  module _ (i word : ℕ) (next : Seen → Prog Passed) (again : Seen → ℕ → Prog Passed) (f : (r : Seen) → So (next r)) (g : (r : Seen) (found : ℕ) → So (again r found)) where
    found_so : (s : Seen) (mark : Mark) (value : List ℕ) → So (key_found j i s word mark value next again)
    found_so s Live value = λ e. absurd (cc)
    found_so s Pending value = λ found. either (OwnSo j) (found == word) (next s) (again (after_lost s) found) (λ e. f s) (λ e. g (after_lost s) found)
    found_so s Copied value = λ e. absurd (cc)
    found_so s Moved value = λ e. absurd (cc)

    slot_so : (s : Seen) (o : Option Slot) → So (judge_slot j i s word o next again)
    slot_so s None = f s
    slot_so s (Some slot) =
        either (OwnSo j) (concerns j slot) _ (next s)
        (λ e. either (OwnSo j) (wants j s i slot slot.mark) _ _
        (λ d. words_so slot.at slot.len slot.at [] (λ ws. after_block j i s word slot.mark ws next again) (λ ws. either (OwnSo j) (has_key ws j.key) (key_found j i s word slot.mark (block_value ws) next again) (next s) (λ k. found_so s slot.mark (block_value ws)) (λ k. f s)))
        (λ d. either (OwnSo j) (is_moved slot.mark) (next (noted s i word)) (next s) (λ k. f (noted s i word)) (λ k. f s)))
        (λ e. f s)

    once_so : (s : Seen) → So (judge_once j i s word next again)
    once_so s = either (OwnSo j) (word == 0) (next (freed s i)) (judge_slot j i s word (slot_of word) next again) (λ e. f (freed s i)) (λ e. slot_so s (slot_of word))

  judge_so : (n i : ℕ) (s : Seen) (word : ℕ) (next : Seen → Prog Passed) → ((r : Seen) → So (next r)) → So (judge j n i s word next)
  judge_so zero i s word next f = once_so i word next (λ r found. ret (passed j r Spent)) f (λ r found e. absurd (cc)) s
  judge_so (suc n) i s word next f = once_so i word next (λ r found. judge j n i r found next) f (λ r found. judge_so n i r found next f) s

  scan_so : (n i : ℕ) (s : Seen) (next : Seen → Prog Passed) → ((r : Seen) → So (next r)) → So (scan j n i s next)
  scan_so zero i s next f = f s
  scan_so (suc n) i s next f =
      either (OwnSo j) (is_own j (candidate_at j s.table i)) (scan j n (i + 1) s next) _ (λ e. scan_so n (i + 1) s next f)
      (λ e word. judge_so (spare j s) i s word (λ r. scan j n (i + 1) r next) (λ r. scan_so n (i + 1) r next f))

  head_so : (s : Seen) (next : Seen → Prog Passed) → ((r : Seen) → So (next r)) → (o : Option ℕ) → So (after_head j s next o)
  head_so s next f None = λ e. absurd (cc)
  head_so s next f (Some level) = either (OwnSo j) (has_own j s.table) (ret (passed j s Gone)) _ (λ e g. e) (λ e child. f (below s child level))

  last_so : (next : Seen → Prog Passed) → ((r : Seen) → So (next r)) → (s : Seen) → So (last j next s)
  unfolding head_read
  last_so next f s = λ w. head_so (with_head s (head_in w)) next f (level_left j.hash s.birth_depth (head_in w))

  search_so : (n : ℕ) (s : Seen) → So (search j n s)
  unfolding search
  search_so zero s = scan_so (count j) 0 s (last j (λ r. ret (passed j r Clear))) (λ r. last_so (λ r2. ret (passed j r2 Clear)) (λ r2 e. absurd (cc)) r)
  search_so (suc n) s = scan_so (count j) 0 s (last j (search j n)) (λ r. last_so (search j n) (λ r2. search_so n r2) r)

  begin_so : (o : Opened) (table : ℕ) → So (begin j o table)
  begin_so o table = either (OwnSo j) (is_first j table) (search j j.geometry.max_depth (first_seen o table j.geometry.first_depth)) _ (λ e. search_so j.geometry.max_depth (first_seen o table j.geometry.first_depth)) (λ e w. search_so j.geometry.max_depth (first_seen o table (birth w).depth))

  pub table_so : (table : ℕ) → So (at_table j table)
  table_so table = λ w. either (OwnSo j) (is_filling (head_in w).state) _ (begin j (record { table = table; head = head_in w }) table) (λ e v. begin_so (record { table = table; head = head_in w }) (birth v).parent) (λ e. begin_so (record { table = table; head = head_in w }) table)

  pub pass_so : (table : ℕ) → So (pass j (Some table))
  pass_so table = table_so (address_of table)
