-- Entries that name no new block, link no table, store nothing and change no map, by the role of their word; and what they leave
-- alone: words that were taken and not published.
use Rattle.std.specs.Prelude.{◌≡◌, ℕ, ◌+◌, ◌*◌, ◌^◌, ◌<◌, ◌≤◌, Bool, true, false, cond, not, ◌&&◌, ◌==◌, nat_lt, ◌∷◌, Some, refl}
use Rattle.std.proofs.Common.{sym, ◌∙◌, ap, subst, ⊎_elim}
use Rattle.slot_word.specs.declared.slots.Mark.{Mark}
use Rattle.slot_word.specs.declared.slots.Mark.TheVariants.{Live, Pending, Copied, Moved}
use Rattle.node_words.specs.Addresses.{node_at, directory_at, header_at, lock_at, slot_at, bucket_header_at}
use Rattle.node_words.specs.Roles.{SlotWord, HeapWord}
use Rattle.verb_log.specs.declared.entry.Entry.{Entry}
use Rattle.verb_log.specs.declared.kind.Kind.{Kind}
use Rattle.verb_log.specs.declared.kind.Kind.TheVariants.{Take, Store, Place, Replace, Lock, Unlock, Link, Begin, Open, Finish, Close, Ripen, Name, Deepen}
use Rattle.verb_log.specs.Decoded.{Body, Content, Full, content, Header, PlainAt, SplittingAt, FillingAt, NoHeader, header}
use Rattle.verb_log.specs.Tables.{Past, word_at, role, is_taken, is_published, publishes, covers, is_address}
use Rattle.verb_log.specs.Kinds.{kind, kind_of_role, only_if, slot_kind, header_kind, bucket_kind, lock_kind}
use Rattle.race_laws.specs.Setting.{Setting}
use Rattle.race_laws.specs.Standing.{IsTable, header_in, bucket_in, place_in, birth_in}
use Rattle.race_laws.specs.Rows.{IsPlace}
use Rattle.race_laws.specs.Legal.{Legal}
use Rattle.race_laws.proofs.Step.{StepAt, step_of, SlotStep, place, drop, commit, replace, remove, copy, uncopy, flip, settle, clear}
use Rattle.race_laws.proofs.Touch.{touched}
use Rattle.race_laws.specs.Named.{Named}
use Rattle.race_laws.proofs.Sound.{judged_is, Sound, next_is}
use Rattle.race_laws.proofs.SoundStep.{sound, sounds, named_at}
use Rattle.race_laws.proofs.Covers.{covered, covers_none}
use Rattle.race_laws.proofs.Slots.{slot_is, standing_named, slot_place_of}
use Rattle.race_laws.proofs.Frames.{header_is, lock_is, bucket_is}
use Rattle.log_facts.specs.Since.{change_in}
use Rattle.log_facts.proofs.Directory.{depth_is, directory_is}
use Rattle.log_facts.specs.Entries.{is_fresh, uses_fresh, Modest}
use Rattle.log_facts.proofs.Keeps.{link_kind}
use Rattle.log_facts.specs.Mine.{Mine}
use Rattle.log_facts.proofs.Mine.{on_slot_or_child, mine_own, mine_heap}

pub fresh_if : (x : Bool) (k : Kind) → is_fresh k ≡ false → uses_fresh (only_if x k) ≡ false
fresh_if true k h = h
fresh_if false k h = refl

header_modest_kind : (x y : Header) → uses_fresh (header_kind x y) ≡ false
header_modest_kind (PlainAt d) (PlainAt e) = refl
header_modest_kind (PlainAt d) (SplittingAt e) = fresh_if (e == d) Open refl
header_modest_kind (PlainAt d) (FillingAt e) = refl
header_modest_kind (PlainAt d) NoHeader = refl
header_modest_kind (SplittingAt d) (PlainAt e) = fresh_if (e == d + 1) Finish refl
header_modest_kind (SplittingAt d) (SplittingAt e) = refl
header_modest_kind (SplittingAt d) (FillingAt e) = refl
header_modest_kind (SplittingAt d) NoHeader = refl
header_modest_kind (FillingAt d) (PlainAt e) = fresh_if (e == d) Ripen refl
header_modest_kind (FillingAt d) (SplittingAt e) = refl
header_modest_kind (FillingAt d) (FillingAt e) = refl
header_modest_kind (FillingAt d) NoHeader = refl
header_modest_kind NoHeader y = refl

bucket_modest_kind : (x y : Header) → uses_fresh (bucket_kind x y) ≡ false
bucket_modest_kind (PlainAt d) (PlainAt e) = refl
bucket_modest_kind (PlainAt d) (SplittingAt e) = fresh_if (e == d) Begin refl
bucket_modest_kind (PlainAt d) (FillingAt e) = refl
bucket_modest_kind (PlainAt d) NoHeader = refl
bucket_modest_kind (SplittingAt d) (PlainAt e) = fresh_if (e == d + 1) Close refl
bucket_modest_kind (SplittingAt d) (SplittingAt e) = refl
bucket_modest_kind (SplittingAt d) (FillingAt e) = refl
bucket_modest_kind (SplittingAt d) NoHeader = refl
bucket_modest_kind (FillingAt d) (PlainAt e) = fresh_if (e == d) Ripen refl
bucket_modest_kind (FillingAt d) (SplittingAt e) = refl
bucket_modest_kind (FillingAt d) (FillingAt e) = refl
bucket_modest_kind (FillingAt d) NoHeader = refl
bucket_modest_kind NoHeader y = refl

lock_modest_kind : (e : Entry) → uses_fresh (lock_kind e) ≡ false
lock_modest_kind e = by ((e.old == 0) && (e.new == e.client + 1))
  where
    by : (f : Bool) → uses_fresh (cond f (Some Lock) (only_if ((e.old == e.client + 1) && (e.new == 0)) Unlock)) ≡ false
    by true = refl
    by false = fresh_if ((e.old == e.client + 1) && (e.new == 0)) Unlock refl

module _ (s : Setting) (c : ℕ) (q : Past) (l : Legal s q) where
  pub slot_modest : (t p w : ℕ) (o n : Content) → IsTable s.geometry q t → IsPlace s.geometry p → place_in s.geometry q t p ≡ o → content w ≡ n → uses_fresh (slot_kind o n) ≡ false → Modest s q (change_in s.geometry c q (slot_at t p) w)
  slot_modest t p w o n h pl po cw f = ap uses_fresh (ap (kind_of_role s.geometry q (change_in s.geometry c q (slot_at t p) w)) (judged_is s.geometry q (sound s q l) (slot_at t p) ∙ slot_is s.geometry q (sound s q l) t p h pl) ∙ ap (λ v. slot_kind v (content w)) po ∙ ap (slot_kind o) cw) ∙ f

  pub header_modest : (t w : ℕ) → IsTable s.geometry q t → Modest s q (change_in s.geometry c q (header_at t) w)
  header_modest t w h = ap uses_fresh (ap (kind_of_role s.geometry q (change_in s.geometry c q (header_at t) w)) (judged_is s.geometry q (sound s q l) (header_at t) ∙ header_is s.geometry q (sound s q l) t h)) ∙ header_modest_kind (header_in s.geometry q t) (header w)

  pub bucket_modest : (t m w : ℕ) → IsTable s.geometry q t → m < 2 * s.geometry.groups → Modest s q (change_in s.geometry c q (bucket_header_at t m) w)
  bucket_modest t m w h k = ap uses_fresh (ap (kind_of_role s.geometry q (change_in s.geometry c q (bucket_header_at t m) w)) (judged_is s.geometry q (sound s q l) (bucket_header_at t m) ∙ bucket_is s.geometry q (sound s q l) t h m k)) ∙ bucket_modest_kind (bucket_in s.geometry q t m) (header w)

  pub lock_modest : (t w : ℕ) → IsTable s.geometry q t → Modest s q (change_in s.geometry c q (lock_at t) w)
  lock_modest t w h = ap uses_fresh (ap (kind_of_role s.geometry q (change_in s.geometry c q (lock_at t) w)) (judged_is s.geometry q (sound s q l) (lock_at t) ∙ lock_is s.geometry q (sound s q l) t h)) ∙ lock_modest_kind (change_in s.geometry c q (lock_at t) w)

  pub name_modest : (j w : ℕ) → j < 2 ^ s.geometry.max_depth → Modest s q (change_in s.geometry c q (directory_at j) w)
  name_modest j w k = ap uses_fresh (ap (kind_of_role s.geometry q (change_in s.geometry c q (directory_at j) w)) (judged_is s.geometry q (sound s q l) (directory_at j) ∙ directory_is s q l j k)) ∙ fresh_if (is_address s.geometry w) Name refl

  pub deepen_modest : (w : ℕ) → Modest s q (change_in s.geometry c q 1 w)
  deepen_modest w = ap uses_fresh (ap (kind_of_role s.geometry q (change_in s.geometry c q 1 w)) (judged_is s.geometry q (sound s q l) 1 ∙ depth_is s q l)) ∙ fresh_if (w == word_at s.geometry q 1 + 1) Deepen refl

  pub take_modest : (k w : ℕ) → k < s.geometry.nodes → Modest s q (change_in s.geometry c q (node_at s.geometry k) w)
  take_modest k w low = ap uses_fresh (ap (kind_of_role s.geometry q (change_in s.geometry c q (node_at s.geometry k) w)) (judged_is s.geometry q (sound s q l) (node_at s.geometry k) ∙ next_is s.geometry q (sound s q l) k low)) ∙ fresh_if (nat_lt (word_at s.geometry q (node_at s.geometry k)) w) Take refl

-- a modest entry leaves alone what was taken and not published
module _ (s : Setting) (q : Past) (e : Entry) (l : Legal s (e ∷ q)) (md : Modest s q e) where
  so : Sound s.geometry q
  so = sound s q l.0

  not_kind : (k : Kind) → is_fresh k ≡ true → kind s.geometry q e ≡ Some k → ⊥
  not_kind k f h = let z = sym md ∙ ap uses_fresh h ∙ f in absurd (cc)

  of_named : (m : Mark) (b : Body) (x : ℕ) → content e.new ≡ Full m b → Named s.geometry q b → covers (content e.new) x ≡ true → is_published s.geometry q x ≡ true
  of_named m b x n nm cv = let z = covered (content e.new) m b x n cv in nm.published x z.0 z.1

  of_slot : (t p x : ℕ) → role s.geometry q e.at ≡ SlotWord t p → covers (content e.new) x ≡ true → SlotStep s q e t p → is_published s.geometry q x ≡ true
  of_slot t p x r cv (place b i o n row) = absurd (not_kind Place refl i)
  of_slot t p x r cv (drop b i o n) = absurd (covers_none (content e.new) x n cv)
  of_slot t p x r cv (commit b i o n row) = of_named Live b x n (so.named e.at t p Pending b r o) cv
  of_slot t p x r cv (replace b d i o n y row) = absurd (not_kind Replace refl i)
  of_slot t p x r cv (remove b i o n row) = absurd (covers_none (content e.new) x n cv)
  of_slot t p x r cv (copy b i o n row) =
      let pl = (slot_place_of s.geometry q so e.at t p r).0 in
      let wl = row.live in
      let nm = standing_named s.geometry wl.at (sounds s wl.at q wl.before l.0) (birth_in s.geometry q t).parent p Live row.body wl.table pl wl.live.stands in
      of_named Copied row.body x row.word (named_at s wl.before l.0 row.body nm) cv
  of_slot t p x r cv (uncopy b i o n row) = absurd (covers_none (content e.new) x n cv)
  of_slot t p x r cv (flip b i o n row) = of_named Moved b x n (so.named e.at t p Live b r o) cv
  of_slot t p x r cv (settle b i o n row) = of_named Live b x n (so.named e.at t p Copied b r o) cv
  of_slot t p x r cv (clear b i o n row) = absurd (covers_none (content e.new) x n cv)

  modest_publishes : (x : ℕ) → publishes s.geometry e (role s.geometry q e.at) x ≡ true → is_published s.geometry q x ≡ true
  modest_publishes x h = ⊎_elim (λ y. of_slot y.0 y.1 x y.2 y.3 (subst (StepAt s q e) (judged_is s.geometry q so e.at ∙ y.2) (step_of s q e l.1)))
      (λ y. let st = subst (StepAt s q e) (judged_is s.geometry q so e.at ∙ y.2) (step_of s q e l.1) in absurd (not_kind Link refl (link_kind s q e l y.0 y.1 y.2 st.0 st.1)))
      (on_slot_or_child s.geometry e (role s.geometry q e.at) x h)

  pub modest_mine : (c a n : ℕ) → Mine s.geometry q c a n → Mine s.geometry (e ∷ q) c a n
  modest_mine c a n m = mine_own s q e c a n (λ x h k y. let z = modest_publishes x y in let w = m.hidden x h k in absurd (cc)) m

  pub modest_word : (c a n x : ℕ) → Mine s.geometry q c a n → a ≤ x → x < a + n → word_at s.geometry (e ∷ q) x ≡ word_at s.geometry q x
  modest_word c a n x m h k = ⊎_elim (λ (y : word_at s.geometry (e ∷ q) x ≡ word_at s.geometry q x). y)
      (λ y. absurd (not_kind Store refl (store_kind (ap (role s.geometry q) (sym y.0) ∙ mine_heap s q l.0 c a n x m h k) y.1.0 y.1.1)))
      (touched s q e x HeapWord l.1 (judged_is s.geometry q so x ∙ mine_heap s q l.0 c a n x m h k))
    where
      store_kind : role s.geometry q e.at ≡ HeapWord → is_taken s.geometry q e.at ≡ true → is_published s.geometry q e.at ≡ false → kind s.geometry q e ≡ Some Store
      store_kind r t p = ap (kind_of_role s.geometry q e) (judged_is s.geometry q so e.at ∙ r) ∙ ap (λ v. only_if (v && not (is_published s.geometry q e.at)) Store) t ∙ ap (λ v. only_if (true && not v) Store) p
