-- What the text remembers of a table is what the pass over lists has seen there.
use Rattle.std.specs.Prelude.{◌≡◌, ◌≢◌, ℕ, ◌+◌, ◌<◌, ◌≤◌, Bool, true, false, cond, ◌&&◌, ◌||◌, ◌==◌, nat_le, List, [], ◌∷◌, ◌++◌, length, slice_index, slice_set, get_or, Option, Some, None, refl}
use Rattle.std.proofs.Common.{sym, ◌∙◌, ap, subst, arith, ⊎_elim}
use Rattle.std.proofs.lemmas.Bool.Decides.{nat_tests}
use Rattle.slot_word.specs.declared.slots.Mark.TheVariants.{Live, Pending, Copied, Moved}
use Rattle.slot_word.specs.declared.slots.Slot.{Slot}
use Rattle.slot_word.specs.Slots.{slot_of}
use Rattle.std.proofs.lemmas.List.{length-set, get_or-set_same, get_or-set_other}
use Rattle.race_laws.proofs.Touch.{same_or_not}
use Rattle.bucket_group.specs.Buckets.{candidates, fingerprint_of}
use Rattle.bucket_group.proofs.CandidateLaws.{length-candidates_two, candidates_apart}
use Rattle.verb_log.specs.Decoded.{Content, Empty, Full, NoSlot, content}
use Rattle.verb_log.specs.Kinds.{same_body}
use Rattle.pass_text.specs.Words.{level_if_gone, is_gone}
use Rattle.pass_laws.proofs.ListPass.{Shown, Seen, Ended, is_moved, shows_moved, answers, table_before}
use Rattle.pass_text.specs.declared.job.Job.{Job}
use Rattle.pass_text.specs.declared.job.PassMode.{PassMode}
use Rattle.pass_text.specs.declared.job.PassMode.TheVariants.{Look, Sweep, Walk}
use Rattle.pass_text.specs.declared.passed.Passed.{Passed}
use Rattle.pass_text.specs.declared.job.Opened.{Opened}
use Rattle.pass_text.specs.Pass as m
use Rattle.pass_text.specs.Words as w
use Rattle.std.proofs.Common.{length-append}
use Rattle.pass_laws.proofs.Sim.{LostSo, FreeFrom, Alike}
use Rattle.pass_laws.proofs.SameWords.{Fits, body_of, content_slot, equal_false, equal_true, form_same, form_some, free_push, free_set, none_false, shows_push, slot_fits}

module _ (j : Job) (o : Opened) where
  abbrev pub cands : List ℕ
  cands = candidates j.geometry.groups j.hash

  abbrev pub place : ℕ → ℕ
  place k = slice_index cands k

  pub few : length cands ≤ 28
  few = ⊎_elim (λ (e : length cands ≡ 21). omega arith) (λ (e : length cands ≡ 28). omega arith) (length-candidates_two j.geometry.groups j.hash)

  abbrev pub near : ℕ → ℕ → Bool
  near print length = (print == fingerprint_of j.hash) && nat_le length 137

  abbrev pub noted : Content → Bool
  noted (Full Moved b) = near b.print b.length
  noted _ = false

  -- the moved words of an array are those that the words seen show
  abbrev pub MarkSo : List Shown → List ℕ → Type 0
  MarkSo seen moved = (k : ℕ) → k < length cands → (b : Slot) → Fits b → near b.fp b.len ≡ true → (slice_index moved k == w.moved_form b) ≡ shows_moved seen (place k) (body_of b)

  pub at_place : (word : ℕ) (b : Slot) → Fits b → near b.fp b.len ≡ true → (v : Content) → content word ≡ v → (slice_index (cond (noted v) (word ∷ []) (0 ∷ [])) 0 == w.moved_form b) ≡ is_moved (body_of b) v
  at_place word b sb nb Empty e = form_some b sb
  at_place word b sb nb NoSlot e = form_some b sb
  at_place word b sb nb (Full Live c) e = form_some b sb
  at_place word b sb nb (Full Pending c) e = form_some b sb
  at_place word b sb nb (Full Copied c) e = form_some b sb
  at_place word b sb nb (Full Moved c) e = by (near c.print c.length) refl
    where
      x : (a : Slot) × (slot_of word ≡ Some a) × (a.mark ≡ Moved) × (body_of a ≡ c)
      x = content_slot word Moved c e

      by : (v : Bool) → near c.print c.length ≡ v → (slice_index (cond v (word ∷ []) (0 ∷ [])) 0 == w.moved_form b) ≡ same_body c (body_of b)
      by true n =
          form_same word x.0 b x.1 x.2 (slot_fits word x.0 x.1) sb ∙ ap (λ d. same_body d (body_of b)) x.3
      by false n = form_some b sb ∙ sym (none_false (same_body c (body_of b)) (λ h. far c.print b.fp c.length b.len c.at b.at h n nb))
        where
          far : (p q l k a d : ℕ) → ((p == q) && (l == k) && (a == d)) ≡ true → near p l ≡ false → near q k ≡ true → ⊥
          far p q l k a d h f g = grind (arith, nat_tests)

  -- one candidate more
  unfoldable pub next_moved : List ℕ → ℕ → ℕ → List ℕ
  next_moved moved i word = cond (noted (content word)) (slice_set moved i word) moved

  unfoldable pub next_free : List Bool → ℕ → ℕ → List Bool
  next_free free i word = cond (word == 0) (slice_set free i true) free

  pub free_step : (f : List Bool) (seen : List Shown) (i word : ℕ) → FreeFrom f 0 seen → length seen ≡ i → length f ≡ 28 → i < length cands → get_or f i false ≡ false → FreeFrom (next_free f i word) 0 (seen ++ record { place = place i; word = word } ∷ [])
  unfolding next_free
  free_step f seen i word h count size low none = by (word == 0) refl
    where
      inside : i < length f
      inside = let g = few in omega arith

      zero_count : 0 + length seen ≡ i
      zero_count = omega arith

      by : (v : Bool) → (word == 0) ≡ v → FreeFrom (cond v (slice_set f i true) f) 0 (seen ++ record { place = place i; word = word } ∷ [])
      by true e = free_push (slice_set f i true) 0 seen (record { place = place i; word = word }) i zero_count (free_set f 0 seen i true (omega arith) h) (get_or-set_same f i true false inside ∙ sym e)
      by false e = free_push f 0 seen (record { place = place i; word = word }) i zero_count h (none ∙ sym e)

  pub mark_step : (seen : List Shown) (moved : List ℕ) (i word : ℕ) → MarkSo seen moved → length moved ≡ 28 → i < length cands → slice_index moved i ≡ 0 → MarkSo (seen ++ record { place = place i; word = word } ∷ []) (next_moved moved i word)
  unfolding next_moved
  mark_step seen moved i word so size low zero_there k lk b sb nb =
      ⊎_elim (λ (e : k ≡ i). at_i e) (λ (e : k ≢ i). other e) (same_or_not k i) ∙ sym (shows_push seen (record { place = place i; word = word }) (place k) (body_of b))
    where
      size_low : i < length moved
      size_low = let f = few in omega arith

      put : (v : Bool) → slice_index (cond v (slice_set moved i word) moved) i ≡ slice_index (cond v (word ∷ []) (0 ∷ [])) 0
      put true = get_or-set_same moved i word 0 size_low
      put false = zero_there

      keep : (v : Bool) → k ≢ i → slice_index (cond v (slice_set moved i word) moved) k ≡ slice_index moved k
      keep true e = get_or-set_other moved i k word 0 e
      keep false e = refl

      at_i : k ≡ i → (slice_index (cond (noted (content word)) (slice_set moved i word) moved) k == w.moved_form b) ≡ (shows_moved seen (place k) (body_of b) || ((place i == place k) && is_moved (body_of b) (content word)))
      at_i e =
          let one : (slice_index (cond (noted (content word)) (slice_set moved i word) moved) k == w.moved_form b) ≡ is_moved (body_of b) (content word) =
          ap (λ n. slice_index (cond (noted (content word)) (slice_set moved i word) moved) n == w.moved_form b) e ∙ ap (λ n. n == w.moved_form b) (put (noted (content word))) ∙ at_place word b sb nb (content word) refl in
          let none : shows_moved seen (place k) (body_of b) ≡ false = sym (so k lk b sb nb) ∙ ap (λ n. slice_index moved n == w.moved_form b) e ∙ ap (λ n. n == w.moved_form b) zero_there ∙ form_some b sb in
          one ∙ sym (ap (λ v. v || ((place i == place k) && is_moved (body_of b) (content word))) none ∙ ap (λ v. false || (v && is_moved (body_of b) (content word))) (equal_true (place i) (place k) (ap place (sym e))))

      other : k ≢ i → (slice_index (cond (noted (content word)) (slice_set moved i word) moved) k == w.moved_form b) ≡ (shows_moved seen (place k) (body_of b) || ((place i == place k) && is_moved (body_of b) (content word)))
      other e =
          let apart : (place i == place k) ≡ false = equal_false (place i) (place k) (λ h. e (sym (candidates_apart j.geometry.groups j.hash i k low lk h))) in
          ap (λ n. n == w.moved_form b) (keep (noted (content word)) e) ∙ so k lk b sb nb ∙ sym (or_none (shows_moved seen (place k) (body_of b)) (is_moved (body_of b) (content word)) (place i == place k) apart)
        where
          or_none : (x y z : Bool) → z ≡ false → (x || (z && y)) ≡ x
          or_none true y z e = refl
          or_none false y true e = cc
          or_none false y false e = refl

  -- the moved words of the table before
  abbrev pub PriorSo : Option Seen → List ℕ → Type 0
  PriorSo None prior = (k : ℕ) → k < length cands → slice_index prior k ≡ 0
  PriorSo (Some x) prior = MarkSo x.shown prior

  pub prior_answers : (before : Option Seen) (prior : List ℕ) → PriorSo before prior → (k : ℕ) → k < length cands → (b : Slot) → Fits b → near b.fp b.len ≡ true → (slice_index prior k == w.moved_form b) ≡ answers before (place k) (body_of b)
  prior_answers None prior so k lk b sb nb = ap (λ n. n == w.moved_form b) (so k lk) ∙ form_some b sb
  prior_answers (Some x) prior so k lk b sb nb = so k lk b sb nb

  abbrev pub LeftSo : PassMode → ℕ → ℕ → Type 0
  LeftSo Look lost left = 1 ≤ left
  LeftSo (Sweep own n) lost left = (lost + left ≡ n) × (1 ≤ left)
  LeftSo Walk lost left = 1 ≤ left

  -- how many more drops may be lost
  abbrev pub SpareSo : PassMode → ℕ → ℕ → Type 0
  SpareSo Look n left = Unit {0}
  SpareSo (Sweep own k) n left = n + 1 ≡ left
  SpareSo Walk n left = Unit {0}

  pub left_some : (pm : PassMode) (lost left : ℕ) → LeftSo pm lost left → 1 ≤ left
  left_some Look lost left h = h
  left_some (Sweep own n) lost left h = h.1
  left_some Walk lost left h = h

  pub left_lost : (pm : PassMode) (lost left : ℕ) → LeftSo pm lost left → LostSo pm lost left
  left_lost Look lost left h = tt
  left_lost (Sweep own n) lost left h = h.0
  left_lost Walk lost left h = tt

  -- what the text remembers, and what the pass over lists has seen, up to candidate i of a table
  pub record Rel (s : m.Seen) (before : Option Seen) (t born : ℕ) (seen : List Shown) (i left : ℕ) : Type 0 where
    pub table : s.table ≡ t
    pub is_born : s.birth_depth ≡ born
    pub opened : s.opened ≡ o
    pub parent : s.parent ≡ table_before before
    pub marks : MarkSo seen s.moved
    pub size : length s.moved ≡ 28
    pub fresh : (k : ℕ) → i ≤ k → k < length cands → slice_index s.moved k ≡ 0
    pub prior : PriorSo before s.prior
    pub left_so : LeftSo j.mode s.lost left
    pub free_so : j.mode ≡ Look → FreeFrom s.free 0 seen × (length seen ≡ i)
    pub free_fresh : j.mode ≡ Look → (k : ℕ) → i ≤ k → k < length cands → get_or s.free k false ≡ false
    pub free_size : length s.free ≡ 28

  abbrev pub R : Passed → Ended → Type 0
  R p e = Alike j o p e

  pub opened_as : (s : m.Seen) → s.opened ≡ o → m.opened_at s.opened s.table ≡ m.opened_at o s.table
  opened_as s e = ap (λ v. m.opened_at v s.table) e

  -- the same but for the moved words
  pub record Goes (s r : m.Seen) (i word : ℕ) : Type 0 where
    pub table : r.table ≡ s.table
    pub is_born : r.birth_depth ≡ s.birth_depth
    pub opened : r.opened ≡ s.opened
    pub parent : r.parent ≡ s.parent
    pub prior : r.prior ≡ s.prior
    pub lost : r.lost ≡ s.lost
    pub moved : r.moved ≡ next_moved s.moved i word
    pub free : j.mode ≡ Look → r.free ≡ next_free s.free i word
    pub free_size : length r.free ≡ length s.free

  pub rel_next : (s : m.Seen) (before : Option Seen) (t born : ℕ) (seen : List Shown) (i left : ℕ) → Rel s before t born seen i left → i < length cands → (r : m.Seen) (word : ℕ) → Goes s r i word → Rel r before t born (seen ++ record { place = place i; word = word } ∷ []) (i + 1) left
  unfolding next_moved next_free
  rel_next s before t born seen i left h low r word g = record {
    table = g.table ∙ h.table;
    is_born = g.is_born ∙ h.is_born;
    opened = g.opened ∙ h.opened;
    parent = g.parent ∙ h.parent;
    marks = subst (MarkSo (seen ++ record { place = place i; word = word } ∷ [])) (sym g.moved) (mark_step seen s.moved i word h.marks h.size low (h.fresh i (omega arith) low));
    size = ap (λ (v : List ℕ). length v) g.moved ∙ long (noted (content word));
    fresh = λ k from lk. ap (λ v. slice_index v k) g.moved ∙ later (noted (content word)) k (λ e. omega (arith, from, e)) ∙ h.fresh k (omega arith) lk;
    prior = subst (PriorSo before) (sym g.prior) h.prior;
    left_so = subst (λ v. LeftSo j.mode v left) (sym g.lost) h.left_so;
    free_so = λ q. (subst (λ v. FreeFrom v 0 (seen ++ record { place = place i; word = word } ∷ [])) (sym (g.free q)) (free_step s.free seen i word (h.free_so q).0 (h.free_so q).1 h.free_size low (h.free_fresh q i (omega arith) low)), length-append seen (record { place = place i; word = word } ∷ []) ∙ ap (λ n. n + 1) (h.free_so q).1);
    free_fresh = λ q k from lk. ap (λ v. get_or v k false) (g.free q) ∙ free_later (word == 0) k (λ e. omega (arith, from, e)) ∙ h.free_fresh q k (omega arith) lk;
    free_size = g.free_size ∙ h.free_size;
  }
    where
      free_later : (v : Bool) (k : ℕ) → k ≢ i → get_or (cond v (slice_set s.free i true) s.free) k false ≡ get_or s.free k false
      free_later true k e = get_or-set_other s.free i k true false e
      free_later false k e = refl

      long : (v : Bool) → length (cond v (slice_set s.moved i word) s.moved) ≡ 28
      long true = length-set s.moved i word ∙ h.size
      long false = h.size

      later : (v : Bool) (k : ℕ) → k ≢ i → slice_index (cond v (slice_set s.moved i word) s.moved) k ≡ slice_index s.moved k
      later true k e = get_or-set_other s.moved i k word 0 e
      later false k e = refl
