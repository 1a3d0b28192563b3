-- A client's own words: words that it took and that no slot and no link has published. Entries of other clients leave them alone, and
-- so do own entries that publish none of them.
use Rattle.std.specs.Prelude.{◌≡◌, ◌≢◌, ℕ, ◌+◌, ◌<◌, ◌≤◌, Bool, true, false, ◌&&◌, ◌||◌, ◌==◌, [], ◌∷◌, ◌⊎◌, refl}
use Rattle.std.proofs.Common.{sym, ◌∙◌, ap, subst, inl, inr, arith, ⊎_elim}
use Rattle.std.proofs.lemmas.Bool.Decides.{nat_tests}
use Rattle.slot_word.specs.declared.slots.Mark.{Mark}
use Rattle.slot_word.specs.declared.slots.Mark.TheVariants.{Live, Pending, Copied, Moved}
use Rattle.node_words.specs.declared.geometry.Geometry.{Geometry}
use Rattle.node_words.specs.Addresses.{node_of, node_at, table_words}
use Rattle.node_words.specs.Roles.{Role, NextWord, DepthWord, DirectoryWord, BirthWord, HeaderWord, LockWord, ReservedWord, ChildWord, BucketWord, SlotWord, HeapWord}
use Rattle.node_words.proofs.RoleLemmas.{next_below}
use Rattle.verb_log.specs.declared.entry.Entry.{Entry}
use Rattle.verb_log.specs.Decoded.{Body, Full, content}
use Rattle.verb_log.specs.Tables.{Past, word_at, table_of, role, judged_role, is_among, is_address, is_taken, is_taken_by, moves_across, is_published, publishes, covers}
use Rattle.race_laws.specs.Setting.{Setting}
use Rattle.race_laws.specs.Standing.{birth_in}
use Rattle.race_laws.specs.Rows.{IsFresh}
use Rattle.race_laws.specs.Legal.{Legal}
use Rattle.race_laws.proofs.Step.{StepAt, step_of, SlotStep, place, drop, commit, replace, remove, copy, uncopy, flip, settle, clear}
use Rattle.race_laws.proofs.Touch.{touched, taken_by_someone, and_both, or_either}
use Rattle.race_laws.proofs.Regions.{node_between, node_end}
use Rattle.race_laws.specs.Named.{Named}
use Rattle.race_laws.proofs.Sound.{judged_is, Sound, taken_heap, fresh_none}
use Rattle.race_laws.proofs.SoundStep.{sound, sounds, named_at}
use Rattle.log_facts.specs.Mine.{Mine}
use Rattle.race_laws.proofs.Covers.{moved_by, covered, covers_none, among}
use Rattle.race_laws.proofs.Slots.{standing_named, slot_place_of}

or_right : (x y : Bool) → y ≡ true → (x || y) ≡ true
or_right true y h = refl
or_right false y h = h

-- a word is taken once
module _ (s : Setting) (q : Past) (e : Entry) (l : Legal s (e ∷ q)) (x : ℕ) where
  so : Sound s.geometry q
  so = sound s q l.0

  -- what an entry takes was not taken before
  taken_now : moves_across s.geometry e (judged_role s.geometry q e.at) x ≡ true → is_taken s.geometry q x ≡ true → ⊥
  taken_now m tk =
      let y = moved_by s.geometry e (judged_role s.geometry q e.at) x m in
      let nb = next_below s.geometry e.at (table_of s.geometry q e.at) y.0 (sym (judged_is s.geometry q so e.at) ∙ y.1) l.1.within in
      let st = subst (StepAt s q e) y.1 (step_of s q e l.1) in
      let t = so.taken x tk in
      let from = so.next_from y.0 nb.0 in
      let old : word_at s.geometry q (node_at s.geometry y.0) ≡ e.old = ap (word_at s.geometry q) (sym nb.1) ∙ l.1.stands in
      let row = st.1 in
      let end = node_end s.geometry y.0 in
      let within = row.within in
      let low = y.2 in
      let high = y.3 in
      let node : node_of s.geometry x ≡ y.0 = node_between s.geometry y.0 x (omega arith) (omega arith) in
      let to = subst (λ k. x < word_at s.geometry q (node_at s.geometry k)) node t.to in
      omega arith

pub taken_once : (s : Setting) (q : Past) → Legal s q → (c d x : ℕ) → is_taken_by s.geometry q c x ≡ true → is_taken_by s.geometry q d x ≡ true → c ≡ d
taken_once s [] l c d x h k = absurd (cc)
taken_once s (e ∷ q) l c d x h k =
    ⊎_elim (λ (a : (moves_across s.geometry e (judged_role s.geometry q e.at) x && (e.client == c)) ≡ true).
    let a2 = and_both (moves_across s.geometry e (judged_role s.geometry q e.at) x) (e.client == c) a in
    ⊎_elim (λ (b : (moves_across s.geometry e (judged_role s.geometry q e.at) x && (e.client == d)) ≡ true). let b2 = and_both (moves_across s.geometry e (judged_role s.geometry q e.at) x) (e.client == d) b in same e.client c d a2.1 b2.1)
    (λ (b : is_taken_by s.geometry q d x ≡ true). absurd (taken_now s q e l x a2.0 (taken_by_someone s.geometry q d x b))) (or_either (moves_across s.geometry e (judged_role s.geometry q e.at) x && (e.client == d)) (is_taken_by s.geometry q d x) k))
    (λ (a : is_taken_by s.geometry q c x ≡ true).
    ⊎_elim (λ (b : (moves_across s.geometry e (judged_role s.geometry q e.at) x && (e.client == d)) ≡ true). let b2 = and_both (moves_across s.geometry e (judged_role s.geometry q e.at) x) (e.client == d) b in absurd (taken_now s q e l x b2.0 (taken_by_someone s.geometry q c x a)))
    (λ (b : is_taken_by s.geometry q d x ≡ true). taken_once s q l.0 c d x a b) (or_either (moves_across s.geometry e (judged_role s.geometry q e.at) x && (e.client == d)) (is_taken_by s.geometry q d x) k))
    (or_either (moves_across s.geometry e (judged_role s.geometry q e.at) x && (e.client == c)) (is_taken_by s.geometry q c x) h)
  where
    same : (n c d : ℕ) → (n == c) ≡ true → (n == d) ≡ true → c ≡ d
    same n c d h k = grind (arith, nat_tests)

pub taken_by_stays : (g : Geometry) (q : Past) (e : Entry) (c x : ℕ) → is_taken_by g q c x ≡ true → is_taken_by g (e ∷ q) c x ≡ true
taken_by_stays g q e c x h = or_right (moves_across g e (judged_role g q e.at) x && (e.client == c)) (is_taken_by g q c x) h

-- only slot words and links publish
pub on_slot_or_child : (g : Geometry) (e : Entry) (r : Role) (x : ℕ) → publishes g e r x ≡ true → ((t : ℕ) × (p : ℕ) × (r ≡ SlotWord t p) × (covers (content e.new) x ≡ true)) ⊎ ((t : ℕ) × (i : ℕ) × (r ≡ ChildWord t i) × (is_among e.new (table_words g) x ≡ true))
on_slot_or_child g e (NextWord k) x h = absurd (cc)
on_slot_or_child g e DepthWord x h = absurd (cc)
on_slot_or_child g e (DirectoryWord j) x h = absurd (cc)
on_slot_or_child g e (BirthWord t) x h = absurd (cc)
on_slot_or_child g e (HeaderWord t) x h = absurd (cc)
on_slot_or_child g e (LockWord t) x h = absurd (cc)
on_slot_or_child g e ReservedWord x h = absurd (cc)
on_slot_or_child g e (ChildWord t i) x h = inr (t, i, refl, (and_both (is_address g e.new) (is_among e.new (table_words g) x) h).1)
on_slot_or_child g e (BucketWord t m) x h = absurd (cc)
on_slot_or_child g e (SlotWord t p) x h = inl (t, p, refl, h)
on_slot_or_child g e HeapWord x h = absurd (cc)

-- what is published now by an entry was taken by its client, or was published
module _ (s : Setting) (q : Past) (e : Entry) (l : Legal s (e ∷ q)) (x : ℕ) where
  so2 : Sound s.geometry q
  so2 = sound s q l.0

  abbrev pub Owned : Type 0
  Owned = (is_taken_by s.geometry q e.client x ≡ true) ⊎ (is_published s.geometry q x ≡ true)

  of_fresh : (t p : ℕ) (m : Mark) (b : Body) (q2 : _) → content e.new ≡ Full m b → IsFresh s q e.client b q2 → covers (content e.new) x ≡ true → Owned
  of_fresh t p m b q2 n f c = let z = covered (content e.new) m b x n c in inl (f.taken x z.0 z.1)

  of_named : (m : Mark) (b : Body) → content e.new ≡ Full m b → Named s.geometry q b → covers (content e.new) x ≡ true → Owned
  of_named m b n nm c = let z = covered (content e.new) m b x n c in inr (nm.published x z.0 z.1)

  of_slot : (t p : ℕ) → role s.geometry q e.at ≡ SlotWord t p → covers (content e.new) x ≡ true → SlotStep s q e t p → Owned
  of_slot t p r c (place b i o n row) = of_fresh t p Pending row.body row.pair row.word row.fresh c
  of_slot t p r c (drop b i o n) = absurd (covers_none (content e.new) x n c)
  of_slot t p r c (commit b i o n row) = of_named Live b n (so2.named e.at t p Pending b r o) c
  of_slot t p r c (replace b d i o n y row) = of_fresh t p Live row.new_body row.new_pair row.word row.fresh c
  of_slot t p r c (remove b i o n row) = absurd (covers_none (content e.new) x n c)
  of_slot t p r c (copy b i o n row) =
      let pl = (slot_place_of s.geometry q so2 e.at t p r).0 in
      let wl = row.live in
      let nm = standing_named s.geometry wl.at (sounds s wl.at q wl.before l.0) (birth_in s.geometry q t).parent p Live row.body wl.table pl wl.live.stands in
      of_named Copied row.body row.word (named_at s wl.before l.0 row.body nm) c
  of_slot t p r c (uncopy b i o n row) = absurd (covers_none (content e.new) x n c)
  of_slot t p r c (flip b i o n row) = of_named Moved b n (so2.named e.at t p Live b r o) c
  of_slot t p r c (settle b i o n row) = of_named Live b n (so2.named e.at t p Copied b r o) c
  of_slot t p r c (clear b i o n row) = absurd (covers_none (content e.new) x n c)

  pub publishes_own : publishes s.geometry e (role s.geometry q e.at) x ≡ true → Owned
  publishes_own h = ⊎_elim (λ y. of_slot y.0 y.1 y.2 y.3 (subst (StepAt s q e) (judged_is s.geometry q so2 e.at ∙ y.2) (step_of s q e l.1)))
      (λ y. let st = subst (StepAt s q e) (judged_is s.geometry q so2 e.at ∙ y.2) (step_of s q e l.1) in let z = among e.new (table_words s.geometry) x y.3 in inl (st.2.taken x z.0 z.1))
      (on_slot_or_child s.geometry e (role s.geometry q e.at) x h)

not_true : (x : Bool) → (x ≡ true → ⊥) → x ≡ false
not_true true h = absurd (h refl)
not_true false h = refl

-- others leave them so, and do not write them
pub mine_others : (s : Setting) (q : Past) (e : Entry) → Legal s (e ∷ q) → (c a n : ℕ) → e.client ≢ c → Mine s.geometry q c a n → Mine s.geometry (e ∷ q) c a n
mine_others s q e l c a n other m = record {
  taken = λ x h k. taken_by_stays s.geometry q e c x (m.taken x h k);
  hidden = λ x h k. not_true (is_published s.geometry (e ∷ q) x) (λ y. ⊎_elim
      (λ (z : publishes s.geometry e (role s.geometry q e.at) x ≡ true). ⊎_elim (λ (w : is_taken_by s.geometry q e.client x ≡ true). other (taken_once s q l.0 e.client c x w (m.taken x h k))) (λ (w : is_published s.geometry q x ≡ true). let v = m.hidden x h k in cc) (publishes_own s q e l x z))
      (λ (z : is_published s.geometry q x ≡ true). let v = m.hidden x h k in cc) (or_either (publishes s.geometry e (role s.geometry q e.at) x) (is_published s.geometry q x) y));
}

-- an entry of one's own that does not publish them
pub mine_own : (s : Setting) (q : Past) (e : Entry) (c a n : ℕ) → ((x : ℕ) → a ≤ x → x < a + n → publishes s.geometry e (role s.geometry q e.at) x ≡ true → ⊥) → Mine s.geometry q c a n → Mine s.geometry (e ∷ q) c a n
mine_own s q e c a n f m = record {
  taken = λ x h k. taken_by_stays s.geometry q e c x (m.taken x h k);
  hidden = λ x h k. not_true (is_published s.geometry (e ∷ q) x) (λ y. ⊎_elim (λ z. f x h k z) (λ (z : is_published s.geometry q x ≡ true). let v = m.hidden x h k in cc) (or_either (publishes s.geometry e (role s.geometry q e.at) x) (is_published s.geometry q x) y));
}

pub mine_heap : (s : Setting) (q : Past) → Legal s q → (c a n x : ℕ) → Mine s.geometry q c a n → a ≤ x → x < a + n → role s.geometry q x ≡ HeapWord
mine_heap s q l c a n x m h k =
    let so = sound s q l in
    let tk = taken_by_someone s.geometry q c x (m.taken x h k) in
    taken_heap s.geometry q so x tk (fresh_none s.geometry q so x tk (m.hidden x h k))

pub mine_word : (s : Setting) (q : Past) (e : Entry) → Legal s (e ∷ q) → (c a n x : ℕ) → e.client ≢ c → Mine s.geometry q c a n → a ≤ x → x < a + n → word_at s.geometry (e ∷ q) x ≡ word_at s.geometry q x
mine_word s q e l c a n x other m h k = ⊎_elim (λ (y : word_at s.geometry (e ∷ q) x ≡ word_at s.geometry q x). y)
    (λ y. absurd (other (taken_once s q l.0 e.client c x (subst (λ v. is_taken_by s.geometry q e.client v ≡ true) (sym y.0) y.1.2.taken) (m.taken x h k))))
    (touched s q e x HeapWord l.1 (judged_is s.geometry q (sound s q l.0) x ∙ mine_heap s q l.0 c a n x m h k))
