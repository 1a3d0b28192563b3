-- What one legal entry takes, publishes and links; a named block keeps its words.
use Rattle.std.specs.Prelude.{◌≡◌, ℕ, zero, suc, ◌+◌, ◌<◌, ◌≤◌, true, false, cond, nat_le, List, ◌∷◌, Option, Some, None, ◌⊎◌, refl}
use Rattle.std.proofs.Common.{sym, ◌∙◌, ap, subst, inl, inr, arith, ⊎_elim}
use Rattle.slot_word.specs.declared.slots.Mark.TheVariants.{Live, Pending, Copied, Moved}
use Rattle.kv_block.specs.Packing.{unpacked}
use Rattle.node_words.specs.declared.geometry.Geometry.{Geometry}
use Rattle.node_words.specs.Addresses.{node_size, node_of, node_at, table_words}
use Rattle.node_words.specs.Roles.{Role, NextWord, DepthWord, DirectoryWord, BirthWord, HeaderWord, LockWord, ReservedWord, ChildWord, BucketWord, SlotWord, HeapWord}
use Rattle.node_words.proofs.FirstTables.{IsInFirst}
use Rattle.node_words.proofs.RoleLemmas.{next_below}
use Rattle.verb_log.specs.declared.entry.Entry.{Entry}
use Rattle.verb_log.specs.Decoded.{Body, content}
use Rattle.verb_log.specs.Tables.{Past, Before, word_at, words_at, pair_at, is_among, is_address, table_of, role, judged_role, or_else, links, linked_by, is_taken, moves_across, is_published, publishes, covers}
use Rattle.race_laws.specs.Setting.{Setting, base}
use Rattle.race_laws.specs.Legal.{Meets}
use Rattle.race_laws.proofs.Step.{StepAt, step_of, SlotStep, place, drop, commit, replace, remove, copy, uncopy, flip, settle, clear}
use Rattle.race_laws.proofs.Touch.{word_put, touched, table_stays, taken_stays, published_stays, or_either, and_both, taken_by_someone}
use Rattle.race_laws.proofs.Regions.{node_end, node_between}
use Rattle.race_laws.specs.Named.{Named}
use Rattle.race_laws.proofs.Sound.{judged_is, IsTakenAt, Sound, next_is, fresh_none, named_heap}
use Rattle.race_laws.proofs.Covers.{among, covered, covers_none, linked_is, linked_to, links_child, links_publish, moved_by, or_left, published_before}
use Rattle.race_laws.proofs.Slots.{slot_place_of, standing_named}

-- the words from an address on, where each is as it was
pub words_kept : (g : Geometry) (past : Past) (e : Entry) (a n : ℕ) → ((x : ℕ) → a ≤ x → x < a + n → word_at g (e ∷ past) x ≡ word_at g past x) → words_at g (e ∷ past) a n ≡ words_at g past a n
words_kept g past e a zero k = refl
words_kept g past e a (suc n) k =
    let x = k a (omega arith) (omega arith) in
    let y = words_kept g past e (suc a) n (λ v h l. k v (omega arith) (omega arith)) in
    ap (λ (w : ℕ). w ∷ words_at g (e ∷ past) (suc a) n) x ∙ ap (λ (ws : List ℕ). word_at g past a ∷ ws) y

module _ (s : Setting) (past : Past) (e : Entry) (m : Meets s past e) (so : Sound s.geometry past) (ss : (at : Past) → Before at past → Sound s.geometry at) where
  -- what the entry is
  at_role : (r : Role) → role s.geometry past e.at ≡ r → StepAt s past e r
  at_role r h = subst (StepAt s past e) (judged_is s.geometry past so e.at ∙ h) (step_of s past e m)

  pub next_grows : (k : ℕ) → k < s.geometry.nodes → (word_at s.geometry past (node_at s.geometry k) ≤ word_at s.geometry (e ∷ past) (node_at s.geometry k)) × (word_at s.geometry (e ∷ past) (node_at s.geometry k) ≤ node_at s.geometry k + node_size s.geometry)
  next_grows k h = ⊎_elim
      (λ (q : word_at s.geometry (e ∷ past) (node_at s.geometry k) ≡ word_at s.geometry past (node_at s.geometry k)). let t = so.next_to k h in (omega arith, omega arith))
      (λ x. let p = word_put s.geometry past e (node_at s.geometry k) x.0 in
      let w = ap (word_at s.geometry past) x.0 in
      let lt = x.1.0 in
      let within = x.1.1.within in
      let n = node_end s.geometry k in
      (omega arith, omega arith))
      (touched s past e (node_at s.geometry k) (NextWord k) m (judged_is s.geometry past so (node_at s.geometry k) ∙ next_is s.geometry past so k h))

  -- a taken address of the log one longer
  taken_now : (a k : ℕ) → role s.geometry past e.at ≡ NextWord k → e.old ≤ a → a < e.new → IsTakenAt s.geometry (e ∷ past) a
  taken_now a k r h l =
      let x = next_below s.geometry e.at (table_of s.geometry past e.at) k r m.within in
      let st = at_role (NextWord k) r in
      let st-lt = st.0 in
      let within = st.1.within in
      let n = node_end s.geometry k in
      let from = so.next_from k x.0 in
      let w = ap (word_at s.geometry past) x.1 in
      let stands = m.stands in
      let low : base s.geometry k ≤ a = omega arith in
      let q : node_of s.geometry a ≡ k = node_between s.geometry k a low (omega arith) in
      record {
        node = subst (λ (v : ℕ). v < s.geometry.nodes) (sym q) x.0;
        from = subst (λ (v : ℕ). base s.geometry v ≤ a) (sym q) low;
        to = subst (λ (v : ℕ). a < v) (sym (word_put s.geometry past e (node_at s.geometry (node_of s.geometry a)) (ap (node_at s.geometry) q ∙ sym x.1))) l;
      }

  pub taken_step : (a : ℕ) → is_taken s.geometry (e ∷ past) a ≡ true → IsTakenAt s.geometry (e ∷ past) a
  taken_step a h = ⊎_elim
      (λ (x : moves_across s.geometry e (judged_role s.geometry past e.at) a ≡ true). let y = moved_by s.geometry e (judged_role s.geometry past e.at) a x in taken_now a y.0 (sym (judged_is s.geometry past so e.at) ∙ y.1) y.2 y.3)
      (λ (x : is_taken s.geometry past a ≡ true).
      let t = so.taken a x in
      let n = next_grows (node_of s.geometry a) t.node in
      let to = t.to in
      let longer : a < word_at s.geometry (e ∷ past) (node_at s.geometry (node_of s.geometry a)) = omega arith in
      record { node = t.node; from = t.from; to = longer })
      (or_either (moves_across s.geometry e (judged_role s.geometry past e.at) a) (is_taken s.geometry past a) h)

  -- the words of a block that an entry puts into a slot were taken
  slot_taken : (t p a : ℕ) → role s.geometry past e.at ≡ SlotWord t p → SlotStep s past e t p → covers (content e.new) a ≡ true → is_taken s.geometry past a ≡ true
  slot_taken t p a r (place b k o n row) h = let x = covered (content e.new) Pending row.body a row.word h in taken_by_someone s.geometry past e.client a (row.fresh.taken a x.0 x.1)
  slot_taken t p a r (drop b k o n) h = absurd (covers_none (content e.new) a n h)
  slot_taken t p a r (commit b k o n row) h = let x = covered (content e.new) Live b a n h in so.published a ((so.named e.at t p Pending b r o).published a x.0 x.1)
  slot_taken t p a r (replace b c k o n d row) h = let x = covered (content e.new) Live row.new_body a row.word h in taken_by_someone s.geometry past e.client a (row.fresh.taken a x.0 x.1)
  slot_taken t p a r (remove b k o n row) h = absurd (covers_none (content e.new) a n h)
  slot_taken t p a r (copy c k o n row) h =
      let x = covered (content e.new) Copied row.body a row.word h in
      let live = row.live in
      let named = standing_named s.geometry live.at (ss live.at live.before) _ p Live row.body live.table (slot_place_of s.geometry past so e.at t p r).0 live.live.stands in
      so.published a (published_before s.geometry live.before a (named.published a x.0 x.1))
  slot_taken t p a r (uncopy b k o n row) h = absurd (covers_none (content e.new) a n h)
  slot_taken t p a r (flip b k o n row) h = let x = covered (content e.new) Moved b a n h in so.published a ((so.named e.at t p Live b r o).published a x.0 x.1)
  slot_taken t p a r (settle b k o n row) h = let x = covered (content e.new) Live b a n h in so.published a ((so.named e.at t p Copied b r o).published a x.0 x.1)
  slot_taken t p a r (clear b k o n row) h = absurd (covers_none (content e.new) a n h)

  publishes_taken : (r : Role) → role s.geometry past e.at ≡ r → StepAt s past e r → (a : ℕ) → publishes s.geometry e r a ≡ true → is_taken s.geometry past a ≡ true
  publishes_taken (NextWord k) q st a h = cc
  publishes_taken DepthWord q st a h = cc
  publishes_taken (DirectoryWord j) q st a h = cc
  publishes_taken (BirthWord t) q st a h = cc
  publishes_taken (HeaderWord t) q st a h = cc
  publishes_taken (LockWord t) q st a h = cc
  publishes_taken ReservedWord q st a h = cc
  publishes_taken (ChildWord t i) q st a h =
      let x = and_both (is_address s.geometry e.new) (is_among e.new (table_words s.geometry) a) h in
      let y = among e.new (table_words s.geometry) a x.1 in
      taken_by_someone s.geometry past e.client a (st.2.taken a y.0 y.1)
  publishes_taken (BucketWord t n) q st a h = cc
  publishes_taken (SlotWord t p) q st a h = slot_taken t p a q st h
  publishes_taken HeapWord q st a h = cc

  pub published_step : (a : ℕ) → is_published s.geometry (e ∷ past) a ≡ true → is_taken s.geometry (e ∷ past) a ≡ true
  published_step a h = taken_stays s.geometry past e a (⊎_elim
      (λ (x : publishes s.geometry e (role s.geometry past e.at) a ≡ true). publishes_taken (role s.geometry past e.at) refl (at_role (role s.geometry past e.at) refl) a x)
      (λ (x : is_published s.geometry past a ≡ true). so.published a x)
      (or_either (publishes s.geometry e (role s.geometry past e.at) a) (is_published s.geometry past a) h))

  -- the region that an entry links was in no table, and published nowhere
  pub link_row : links s.geometry e (judged_role s.geometry past e.at) ≡ true → (a : ℕ) → e.new ≤ a → a < e.new + table_words s.geometry → (table_of s.geometry past a ≡ None) × (is_published s.geometry past a ≡ false)
  link_row h a k l =
      let x = links_child s.geometry e (judged_role s.geometry past e.at) h in
      let row = (at_role (ChildWord x.0 x.1) (sym (judged_is s.geometry past so e.at) ∙ x.2)).2 in
      let u = row.unpublished a k l in
      (fresh_none s.geometry past so a (taken_by_someone s.geometry past e.client a (row.taken a k l)) u, u)

  -- the table of an address of the log one longer
  pub table_cases : (a t : ℕ) → table_of s.geometry (e ∷ past) a ≡ Some t → (table_of s.geometry past a ≡ Some t) ⊎ ((links s.geometry e (judged_role s.geometry past e.at) ≡ true) × (e.new ≤ a) × (a < e.new + table_words s.geometry) × (t ≡ e.new))
  table_cases a t h = by (table_of s.geometry past a) refl
    where
      by : (o : Option ℕ) → table_of s.geometry past a ≡ o → (table_of s.geometry past a ≡ Some t) ⊎ ((links s.geometry e (judged_role s.geometry past e.at) ≡ true) × (e.new ≤ a) × (a < e.new + table_words s.geometry) × (t ≡ e.new))
      by None q = inr (linked_is s.geometry e (judged_role s.geometry past e.at) a t (sym (ap (λ o. or_else o (linked_by s.geometry e (judged_role s.geometry past e.at) a)) q) ∙ h))
      by (Some u) q = inl (q ∙ sym (ap (λ o. or_else o (linked_by s.geometry e (judged_role s.geometry past e.at) a)) q) ∙ h)

  pub linked_now : links s.geometry e (judged_role s.geometry past e.at) ≡ true → (a : ℕ) → e.new ≤ a → a < e.new + table_words s.geometry → table_of s.geometry (e ∷ past) a ≡ Some e.new
  linked_now h a k l = ap (λ o. or_else o (linked_by s.geometry e (judged_role s.geometry past e.at) a)) (link_row h a k l).0 ∙ linked_to s.geometry e (judged_role s.geometry past e.at) a h k l

  pub tables_step : (a t : ℕ) → table_of s.geometry (e ∷ past) a ≡ Some t → (t ≤ a) × (a < t + table_words s.geometry) × (IsInFirst s.geometry a t ⊎ (is_published s.geometry (e ∷ past) a ≡ true))
  tables_step a t h = ⊎_elim
      (λ (x : table_of s.geometry past a ≡ Some t).
      let y = so.tables a t x in
      (y.0, y.1, ⊎_elim (λ (z : IsInFirst s.geometry a t). inl z) (λ (z : is_published s.geometry past a ≡ true). inr (published_stays s.geometry past e a z)) y.2))
      (λ x. (
        subst (λ v. v ≤ a) (sym x.3) x.1,
        subst (λ v. a < v + table_words s.geometry) (sym x.3) x.2,
        inr (or_left (publishes s.geometry e (role s.geometry past e.at) a) (is_published s.geometry past a) (links_publish s.geometry e (role s.geometry past e.at) a (ap (λ (r : Role). links s.geometry e r) (sym (judged_is s.geometry past so e.at)) ∙ x.0) x.1 x.2)),
      ))
      (table_cases a t h)

  pub whole_step : (a t : ℕ) → table_of s.geometry (e ∷ past) a ≡ Some t → (x : ℕ) → t ≤ x → x < t + table_words s.geometry → table_of s.geometry (e ∷ past) x ≡ Some t
  whole_step a t h x k l = ⊎_elim
      (λ (y : table_of s.geometry past a ≡ Some t). table_stays s.geometry past e x t (so.whole a t y x k l))
      (λ y. linked_now y.0 x (subst (λ v. v ≤ x) y.3 k) (subst (λ v. x < v + table_words s.geometry) y.3 l) ∙ ap (λ v. Some v) (sym y.3))
      (table_cases a t h)

  -- a heap word that is published keeps its word
  pub heap_kept : (a : ℕ) → role s.geometry past a ≡ HeapWord → is_published s.geometry past a ≡ true → word_at s.geometry (e ∷ past) a ≡ word_at s.geometry past a
  heap_kept a h p = ⊎_elim (λ (x : word_at s.geometry (e ∷ past) a ≡ word_at s.geometry past a). x)
      (λ x. let q = ap (is_published s.geometry past) x.0 in let f = x.1.1 in absurd (cc)) (touched s past e a HeapWord m (judged_is s.geometry past so a ∙ h))

  -- a published word that stood in no table stands in none
  none_stays : (a : ℕ) → table_of s.geometry past a ≡ None → is_published s.geometry past a ≡ true → table_of s.geometry (e ∷ past) a ≡ None
  none_stays a n p = by (table_of s.geometry (e ∷ past) a) refl
    where
      by : (o : Option ℕ) → table_of s.geometry (e ∷ past) a ≡ o → table_of s.geometry (e ∷ past) a ≡ None
      by None h = h
      by (Some t) h = absurd (⊎_elim (λ (x : table_of s.geometry past a ≡ Some t). cc) (λ x. let y = (link_row x.0 a x.1 x.2).1 in cc) (table_cases a t h))

  -- a named block stays named, and packs the same pair
  pub packs_kept : (b : Body) → Named s.geometry past b → pair_at s.geometry (e ∷ past) b ≡ pair_at s.geometry past b
  packs_kept b n = ap (λ ws. cond (nat_le (b.at + b.length) s.geometry.words) (unpacked ws) None) (words_kept s.geometry past e b.at b.length (λ a h k. heap_kept a (named_heap s.geometry past so b n a h k) (n.published a h k)))

  pub named_kept : (b : Body) → Named s.geometry past b → Named s.geometry (e ∷ past) b
  named_kept b n = record {
    pair = n.pair;
    packs = packs_kept b n ∙ n.packs;
    published = λ a h k. published_stays s.geometry past e a (n.published a h k);
    outside = λ a h k. none_stays a (n.outside a h k) (n.published a h k);
  }
