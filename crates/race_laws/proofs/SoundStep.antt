-- Each legal entry keeps the regions sound, so they are sound at every position.
use Rattle.std.specs.Prelude.{◌≡◌, ◌≢◌, ℕ, ◌+◌, ◌-◌, ◌<◌, ◌≤◌, true, cond, nat_le, [], ◌∷◌, Option, Some, None, refl}
use Rattle.std.proofs.Common.{sym, ◌∙◌, ap, subst, inl, arith, ⊎_elim}
use Rattle.slot_word.specs.declared.slots.Mark.{Mark}
use Rattle.slot_word.specs.declared.slots.Mark.TheVariants.{Live, Pending, Copied, Moved}
use Rattle.kv_block.specs.Packing.{Pair, unpacked}
use Rattle.node_words.specs.declared.geometry.Geometry.{Geometry}
use Rattle.node_words.specs.Addresses.{node_at, table_words}
use Rattle.node_words.specs.Roles.{Role, NextWord, ChildWord, SlotWord, role_in, offset_role, first_table_of}
use Rattle.node_words.proofs.FirstTables.{first_in, first_is, first_same}
use Rattle.node_words.specs.Opening.{opening_word}
use Rattle.node_words.proofs.OpeningWords.{opening_by_role, next_apart}
use Rattle.node_words.proofs.RoleLemmas.{next_role, child_in, slot_in}
use Rattle.verb_log.specs.declared.entry.Entry.{Entry}
use Rattle.verb_log.specs.Decoded.{Body, Empty, Full, content}
use Rattle.verb_log.specs.Tables.{Past, Before, here, later, word_at, pair_at, table_of, role, judged_role, links, is_taken, is_published, publishes}
use Rattle.race_laws.specs.Setting.{Setting, base}
use Rattle.race_laws.specs.Rows.{IsFresh, IsBlank}
use Rattle.race_laws.specs.Legal.{Meets, Legal}
use Rattle.race_laws.proofs.Step.{StepAt, step_of, SlotStep, place, drop, commit, replace, remove, copy, uncopy, flip, settle, clear}
use Rattle.race_laws.proofs.Touch.{role_stays, word_kept, word_put, touched, taken_by_someone}
use Rattle.race_laws.proofs.Regions.{base_to}
use Rattle.race_laws.specs.Named.{Named}
use Rattle.race_laws.proofs.Sound.{judged_is, Sound, taken_heap, fresh_none}
use Rattle.race_laws.proofs.RegionsStep.{link_row, named_kept, next_grows, packs_kept, published_step, table_cases, tables_step, taken_step, whole_step, words_kept}
use Rattle.race_laws.proofs.Slots.{content-0, full_same, role_by_offset, slot_place_of, standing_named}
use Rattle.race_laws.proofs.Covers.{covers_it, links_child, or_left}

-- a block named at a position is named later
pub named_later : (s : Setting) {p q : Past} → Before p q → Legal s q → ((at : Past) → Before at q → Sound s.geometry at) → (b : Body) → Named s.geometry p b → Named s.geometry q b
named_later s here l ss b n = n
named_later s (later {q = q} {e = e} h) l ss b n = named_kept s q e l.1 (ss q (later here)) (λ at k. ss at (later k)) b (named_later s h l.0 (λ at k. ss at (later k)) b n)

module _ (s : Setting) (past : Past) (e : Entry) (l : Legal s past) (m : Meets s past e) (so : Sound s.geometry past) (ss : (at : Past) → Before at past → Sound s.geometry at) where
  -- the words of a fresh block are not the entry's
  fresh_apart : (t p c : ℕ) (b : Body) (q : Pair) → role s.geometry past e.at ≡ SlotWord t p → IsFresh s past c b q → (a : ℕ) → b.at ≤ a → a < b.at + b.length → a ≢ e.at
  fresh_apart t p c b q r f a h k x =
      let taken = taken_by_someone s.geometry past c a (f.taken a h k) in
      let none = fresh_none s.geometry past so a taken (f.unpublished a h k) in
      let y = taken_heap s.geometry past so a taken none in
      let z = ap (role s.geometry past) x in
      cc

  pub fresh_packs : (t p c : ℕ) (b : Body) (q : Pair) → role s.geometry past e.at ≡ SlotWord t p → IsFresh s past c b q → pair_at s.geometry (e ∷ past) b ≡ Some q
  fresh_packs t p c b q r f = ap (λ ws. cond (nat_le (b.at + b.length) s.geometry.words) (unpacked ws) None) (words_kept s.geometry past e b.at b.length (λ a h k. word_kept s.geometry past e a (fresh_apart t p c b q r f a h k))) ∙ f.packs

  -- the block that an entry names for the first time is named
  fresh_named : (t p c : ℕ) (mk : Mark) (b : Body) (q : Pair) → role s.geometry past e.at ≡ SlotWord t p → content e.new ≡ Full mk b → IsFresh s past c b q → Named s.geometry (e ∷ past) b
  fresh_named t p c mk b q r w f = record {
    pair = q;
    packs = fresh_packs t p c b q r f;
    published = λ a h k. or_left (publishes s.geometry e (role s.geometry past e.at) a) (is_published s.geometry past a) (ap (λ (x : Role). publishes s.geometry e x a) r ∙ covers_it (content e.new) mk b a w h k);
    outside = λ a h k. outside a h k (table_of s.geometry (e ∷ past) a) refl;
  }
    where
      is_taken_at : (a : ℕ) → b.at ≤ a → a < b.at + b.length → is_taken s.geometry past a ≡ true
      is_taken_at a h k = taken_by_someone s.geometry past c a (f.taken a h k)

      none : (a : ℕ) → b.at ≤ a → a < b.at + b.length → table_of s.geometry past a ≡ None
      none a h k = fresh_none s.geometry past so a (is_taken_at a h k) (f.unpublished a h k)

      outside : (a : ℕ) → b.at ≤ a → a < b.at + b.length → (o : Option ℕ) → table_of s.geometry (e ∷ past) a ≡ o → table_of s.geometry (e ∷ past) a ≡ None
      outside a h k None x = x
      outside a h k (Some u) x = absurd (⊎_elim (λ (y : table_of s.geometry past a ≡ Some u). let z = none a h k in cc) (λ y. let z = sym (judged_is s.geometry past so e.at) ∙ (links_child s.geometry e (judged_role s.geometry past e.at) y.0).2 in cc) (table_cases s past e m so ss a u x))

  slot_named : (a t p : ℕ) (mk : Mark) (b : Body) → role s.geometry past e.at ≡ SlotWord t p → SlotStep s past e t p → content e.new ≡ Full mk b → Named s.geometry (e ∷ past) b
  slot_named a t p mk b r (place c k o n row) w = subst (Named s.geometry (e ∷ past)) (full_same Pending mk row.body b (sym row.word ∙ w)) (fresh_named t p e.client Pending row.body row.pair r row.word row.fresh)
  slot_named a t p mk b r (drop c k o n) w = absurd (cc)
  slot_named a t p mk b r (commit c k o n row) w = subst (Named s.geometry (e ∷ past)) (full_same Live mk c b (sym n ∙ w)) (named_kept s past e m so ss c (so.named e.at t p Pending c r o))
  slot_named a t p mk b r (replace c d k o n x row) w = subst (Named s.geometry (e ∷ past)) (full_same Live mk row.new_body b (sym row.word ∙ w)) (fresh_named t p e.client Live row.new_body row.new_pair r row.word row.fresh)
  slot_named a t p mk b r (remove c k o n row) w = absurd (cc)
  slot_named a t p mk b r (copy c k o n row) w =
      let live = row.live in
      let place = (slot_place_of s.geometry past so e.at t p r).0 in
      subst (Named s.geometry (e ∷ past)) (full_same Copied mk row.body b (sym row.word ∙ w))
      (named_kept s past e m so ss row.body (named_later s live.before l ss row.body (standing_named s.geometry live.at (ss live.at live.before) _ p Live row.body live.table place live.live.stands)))
  slot_named a t p mk b r (uncopy c k o n row) w = absurd (cc)
  slot_named a t p mk b r (flip c k o n row) w = subst (Named s.geometry (e ∷ past)) (full_same Moved mk c b (sym n ∙ w)) (named_kept s past e m so ss c (so.named e.at t p Live c r o))
  slot_named a t p mk b r (settle c k o n row) w = subst (Named s.geometry (e ∷ past)) (full_same Live mk c b (sym n ∙ w)) (named_kept s past e m so ss c (so.named e.at t p Copied c r o))
  slot_named a t p mk b r (clear c k o n row) w = absurd (cc)

  named_step : (a t p : ℕ) (mk : Mark) (b : Body) → role s.geometry (e ∷ past) a ≡ SlotWord t p → content (word_at s.geometry (e ∷ past) a) ≡ Full mk b → Named s.geometry (e ∷ past) b
  named_step a t p mk b r w =
      let x = slot_in s.geometry a (table_of s.geometry (e ∷ past) a) t p r in
      ⊎_elim (λ (y : table_of s.geometry past a ≡ Some t). stood (sym (role_stays s.geometry past e a t y) ∙ r))
      (λ y. absurd (linked y.0 y.1 y.2 y.3 x.0)) (table_cases s past e m so ss a t x.0)
    where
      stood : role s.geometry past a ≡ SlotWord t p → Named s.geometry (e ∷ past) b
      stood h = ⊎_elim
          (λ (y : word_at s.geometry (e ∷ past) a ≡ word_at s.geometry past a). named_kept s past e m so ss b (so.named a t p mk b h (sym (ap content y) ∙ w)))
          (λ y. slot_named a t p mk b (sym (ap (role s.geometry past) y.0) ∙ h) y.1 (sym (ap content (word_put s.geometry past e a y.0)) ∙ w))
          (touched s past e a (SlotWord t p) m (judged_is s.geometry past so a ∙ h))

      linked : links s.geometry e (judged_role s.geometry past e.at) ≡ true → e.new ≤ a → a < e.new + table_words s.geometry → t ≡ e.new → table_of s.geometry (e ∷ past) a ≡ Some t → ⊥
      linked h k u q there =
          let c = links_child s.geometry e (judged_role s.geometry past e.at) h in
          let row = (subst (StepAt s past e) c.2 (step_of s past e m)).2 in
          let none = (link_row s past e m so ss h a k u).0 in
          let off : offset_role e.new (a - e.new) ≡ SlotWord t p = sym (role_by_offset s.geometry a e.new) ∙ ap (role_in s.geometry a) (ap (λ v. Some v) (sym q) ∙ sym there) ∙ r in
          let blank = row.newborn.blank (a - e.new) (omega arith) (subst IsBlank (sym off) tt) in
          let back : e.new + (a - e.new) ≡ a = omega arith in
          let other : a ≢ e.at = λ (v : a ≡ e.at). let z = ap (table_of s.geometry past) v in let y = in_table (table_of s.geometry past e.at) c.0 c.1 (sym (judged_is s.geometry past so e.at) ∙ c.2) in cc in
          let zero = word_kept s.geometry past e a other ∙ ap (word_at s.geometry past) (sym back) ∙ blank in
          let empty = ap content zero ∙ content-0 in
          cc
        where
          in_table : (o : Option ℕ) (u i : ℕ) → role_in s.geometry e.at o ≡ ChildWord u i → o ≡ Some u
          in_table o u i h = (child_in s.geometry e.at o u i h).0

  pub sound_step : Sound s.geometry (e ∷ past)
  sound_step = record {
    next_from = λ k h. let x = next_grows s past e m so ss k h in let y = so.next_from k h in omega arith;
    next_to = λ k h. (next_grows s past e m so ss k h).1;
    taken = taken_step s past e m so ss;
    published = published_step s past e m so ss;
    tables = tables_step s past e m so ss;
    whole = whole_step s past e m so ss;
    named = named_step;
  }

-- the opening
opening_next : (g : Geometry) (k : ℕ) → opening_word g (node_at g k) ≡ base g k
opening_next g k = opening_by_role g (node_at g k) (NextWord k) (ap (role_in g (node_at g k)) (next_apart g k) ∙ next_role g k)

opening_empty : (g : Geometry) (a t p : ℕ) → role_in g a (first_table_of g a) ≡ SlotWord t p → content (opening_word g a) ≡ Empty
opening_empty g a t p h = ap content (opening_by_role g a (SlotWord t p) h) ∙ content-0

sound_opening : (g : Geometry) → Sound g []
sound_opening g = record {
  next_from = λ k h. let x = opening_next g k in omega arith;
  next_to = λ k h. let x = opening_next g k in let y = base_to g k in omega arith;
  taken = λ a h. absurd (cc);
  published = λ a h. absurd (cc);
  tables = λ a t h. let x = first_in g a t h in (x.from, x.to, inl x);
  whole = λ a t h x k l. first_is g x t (first_same g a x t (first_in g a t h) k l);
  named = λ a t p m b h w. let x = opening_empty g a t p h in absurd (cc);
}

-- regions are sound at every position of a legal log
pub sounds : (s : Setting) (at q : Past) → Before at q → Legal s q → Sound s.geometry at
sounds s at q b l = all q l at b
  where
    all : (q : Past) → Legal s q → (at : Past) → Before at q → Sound s.geometry at
    all [] l at here = sound_opening s.geometry
    all (e ∷ past) l at here = sound_step s past e l.0 l.1 (all past l.0 past here) (all past l.0)
    all (e ∷ past) l at (later b) = all past l.0 at b

pub sound : (s : Setting) (q : Past) → Legal s q → Sound s.geometry q
sound s q l = sounds s q q here l

-- the pair of a named block never changes
pub packs_later : (s : Setting) {p q : Past} → Before p q → Legal s q → (b : Body) → Named s.geometry p b → pair_at s.geometry q b ≡ pair_at s.geometry p b
packs_later s here l b n = refl
packs_later s (later {q = q} {e = e} h) l b n =
    packs_kept s q e l.1 (sound s q l.0) (λ at k. sounds s at q k l.0) b (named_later s h l.0 (λ at k. sounds s at q k l.0) b n) ∙ packs_later s h l.0 b n

pub named_at : (s : Setting) {p q : Past} → Before p q → Legal s q → (b : Body) → Named s.geometry p b → Named s.geometry q b
named_at s {q = q} h l b n = named_later s h l (λ at k. sounds s at q k l) b n
