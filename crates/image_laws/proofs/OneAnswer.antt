-- In sound words at most one slot answers for a key, and the slots that answer are those of the pairs that are held.
use Rattle.std.specs.Prelude.{◌≡◌, ◌≢◌, ℕ, ◌+◌, ◌%◌, ◌^◌, ◌<◌, List, Some, ◌⊎◌, refl}
use Rattle.std.proofs.Common.{sym, ◌∙◌, ap, subst, inl, inr, arith, ⊎_elim}
use Rattle.slot_word.specs.declared.slots.Mark.TheVariants.{Live, Copied}
use Rattle.kv_block.specs.Packing.{Pair}
use Rattle.node_words.specs.Addresses.{table_words, slot_at}
use Rattle.node_words.specs.Roles.{SlotWord, offset_role}
use Rattle.node_words.proofs.RoleLemmas.{slot_place, slot_below}
use Rattle.verb_log.specs.Decoded.{Body, Content, Empty, Full, content}
use Rattle.race_laws.specs.Setting.{Setting, hash, places}
use Rattle.race_laws.specs.Standing.{IsIn}
use Rattle.race_laws.specs.Rows.{IsPlace}
use Rattle.race_laws.proofs.Slots.{content-0, full_same}
use Rattle.race_laws.proofs.Presence.{candidate_place}
use Rattle.image_laws.specs.declared.table.ImageTable.{ImageTable}
use Rattle.image_laws.specs.Walk.{Words, tables, WalkWord, TableWord, walk}
use Rattle.image_laws.specs.Sound.{pair_from, held_in, held_as, held_by, held, one_pair, LiveSlot, TableRule, IsSound}
use Rattle.image_laws.specs.Answers.{Shows, Answers, live, copied}
use Rattle.image_laws.proofs.Members.{in_flat, in_flat_back, split_in, splits_compare}
use Rattle.image_laws.proofs.Tables.{IsWalked, in_table, of_depth, of_directory, walked_is}
use Rattle.image_laws.proofs.Offsets.{off_slot}
use Rattle.image_laws.proofs.SoundWords.{Placed, ListedAt, placed_in, chain_known, on_chain}

module _ (s : Setting) (w : Words) (so : IsSound s w) where
  -- a slot that answers, as a word of the walk
  pub record Standing (t p : ℕ) (b : Body) (q : Pair) : Type 0 where
    pub table : ImageTable
    pub is_listed : IsIn table (tables s.geometry w)
    pub is : table.at ≡ t
    pub place : IsPlace s.geometry p
    pub site : Placed s w (TableWord table (20 + p))
    pub slot : LiveSlot s w site.before table p
    pub body : slot.body ≡ b
    pub pair : slot.pair ≡ q

  slot_rule : (t : ImageTable) (p : ℕ) → IsIn t (tables s.geometry w) → IsPlace s.geometry p → (r : Placed s w (TableWord t (20 + p))) × ((w (slot_at t.at p) ≡ 0) ⊎ LiveSlot s w r.before t p)
  slot_rule t p h k = let r = placed_in s w so t (20 + p) h (let x = k.0 in omega arith) in (r, subst (TableRule s w r.before t) (off_slot s.geometry t.at p k.1) r.rule.0)

  no_full : (x : ℕ) (c : Content) → x ≡ 0 → content x ≡ c → c ≡ Empty
  no_full x c z e = sym e ∙ ap content z ∙ content-0

  standing : (a p : ℕ) (b : Body) (q : Pair) (kn : ListedAt s.geometry w a) → IsPlace s.geometry p → Shows w Live a p b q → Standing a p b q
  standing a p b q kn k sh = ⊎_elim
      (λ (z : w (slot_at kn.table.at p) ≡ 0). absurd (empty z))
      (λ (l : LiveSlot s w (slot_rule kn.table p kn.is_listed k).0.before kn.table p).
      let same = full_same Live Live l.body b (sym l.stands ∙ there) in
      record { table = kn.table; is_listed = kn.is_listed; is = kn.is; place = k; site = (slot_rule kn.table p kn.is_listed k).0; slot = l; body = same; pair = pairs (sym l.packs ∙ ap (pair_from w) same ∙ sh.packs) })
      (slot_rule kn.table p kn.is_listed k).1
    where
      there : content (w (slot_at kn.table.at p)) ≡ Full Live b
      there = ap (λ v. content (w (slot_at v p))) kn.is ∙ sh.stands

      empty : w (slot_at kn.table.at p) ≡ 0 → ⊥
      empty z = let e = no_full (w (slot_at kn.table.at p)) (Full Live b) z there in cc

      pairs : {x y : Pair} → Some x ≡ Some y → x ≡ y
      pairs e = cc

  no_copy : (t : ImageTable) (p : ℕ) (b : Body) → IsIn t (tables s.geometry w) → IsPlace s.geometry p → content (w (slot_at t.at p)) ≡ Full Copied b → ⊥
  no_copy t p b h k e = ⊎_elim (λ (z : w (slot_at t.at p) ≡ 0). let x = no_full (w (slot_at t.at p)) (Full Copied b) z e in cc)
      (λ (l : LiveSlot s w (slot_rule t p h k).0.before t p). let x = l.stands in cc) (slot_rule t p h k).1

  pub answer_standing : (key : List ℕ) (t p : ℕ) (b : Body) (q : Pair) → Answers s w key t p b q → Standing t p b q × (q.key ≡ key)
  answer_standing key a p b q (live a2 p2 b2 q2 sh ky ca ch) = (standing a p b q (chain_known s w so (hash s key) a ch) (candidate_place s key p ca) sh, ky)
  answer_standing key a p b q (copied t p2 b2 q2 h sh ky ca mo) = absurd (no_copy t p b h (candidate_place s key p ca) sh.stands)

  held_at : (t : ImageTable) (p : ℕ) (b : Body) (q : Pair) → p % 8 ≢ 0 → content (w (slot_at t.at p)) ≡ Full Live b → pair_from w b ≡ Some q → IsIn q (held_by w (TableWord t (20 + p)))
  held_at t p b q k e pk = subst (λ r. IsIn q (held_as w t r)) (sym (off_slot s.geometry t.at p k)) (subst (λ c. IsIn q (held_in w c)) (sym e) (subst (λ o. IsIn q (one_pair o)) (sym pk) (inl refl)))

  standing_held : (t p : ℕ) (b : Body) (q : Pair) → (x : Standing t p b q) → IsIn q (held_by w (TableWord x.table (20 + p)))
  standing_held t p b q x = held_at x.table p b q x.place.1 (x.slot.stands ∙ ap (Full Live) x.body) (ap (pair_from w) (sym x.body) ∙ x.slot.packs ∙ ap Some x.pair)

  pub one_standing : (t u p r : ℕ) (b c : Body) (q z : Pair) → Standing t p b q → Standing u r c z → q.key ≡ z.key → (t ≡ u) × (p ≡ r) × (b ≡ c)
  one_standing t u p r b c q z x y e = by (splits_compare (TableWord x.table (20 + p)) (TableWord y.table (20 + r)) x.site.before x.site.after y.site.before y.site.after (sym x.site.is ∙ y.site.is))
    where
      same_site : TableWord x.table (20 + p) ≡ TableWord y.table (20 + r) → (x.table ≡ y.table) × (20 + p ≡ 20 + r)
      same_site k = (cc, cc)

      same : TableWord x.table (20 + p) ≡ TableWord y.table (20 + r) → (t ≡ u) × (p ≡ r) × (b ≡ c)
      same k =
          let m = same_site k in
          let tables_same : t ≡ u = sym x.is ∙ ap (λ (v : ImageTable). v.at) m.0 ∙ y.is in
          let place : p ≡ r = let n = m.1 in omega arith in
          (tables_same, place, full_same Live Live b c (ap (Full Live) (sym x.body) ∙ sym x.slot.stands ∙ ap (λ v. content (w (slot_at v p))) (ap (λ (v : ImageTable). v.at) m.0) ∙ ap (λ v. content (w (slot_at y.table.at v))) place ∙ y.slot.stands ∙ ap (Full Live) y.body))

      earlier : IsIn (TableWord x.table (20 + p)) y.site.before → ⊥
      earlier k = y.slot.once q (in_flat (held_by w) q (TableWord x.table (20 + p)) y.site.before k (standing_held t p b q x)) (e ∙ ap (λ (v : Pair). v.key) (sym y.pair))

      later : IsIn (TableWord y.table (20 + r)) x.site.before → ⊥
      later k = x.slot.once z (in_flat (held_by w) z (TableWord y.table (20 + r)) x.site.before k (standing_held u r c z y)) (sym e ∙ ap (λ (v : Pair). v.key) (sym x.pair))

      by : ((x.site.before ≡ y.site.before) × (TableWord x.table (20 + p) ≡ TableWord y.table (20 + r))) ⊎ (IsIn (TableWord x.table (20 + p)) y.site.before ⊎ IsIn (TableWord y.table (20 + r)) x.site.before) → (t ≡ u) × (p ≡ r) × (b ≡ c)
      by (inl k) = same k.1
      by (inr (inl k)) = absurd (earlier k)
      by (inr (inr k)) = absurd (later k)

  -- each pair that is held has a slot that answers
  pub record Answered (q : Pair) : Type 0 where
    pub table : ℕ
    pub place : ℕ
    pub body : Body
    pub answers : Answers s w q.key table place body q

  pub held_answers : (q : Pair) → IsIn q (held w (walk s.geometry w)) → Answered q
  held_answers q h = let r = in_flat_back (held_by w) q (walk s.geometry w) h in by r.0 (walked_is s.geometry w r.0 r.1) r.2
    where
      content_cases : (t : ImageTable) (p : ℕ) → IsIn t (tables s.geometry w) → IsPlace s.geometry p → (c : Content) → content (w (slot_at t.at p)) ≡ c → IsIn q (held_in w c) → Answered q
      content_cases t p k pl c e m = ⊎_elim (λ (z : w (slot_at t.at p) ≡ 0). absurd (subst (λ v. IsIn q (held_in w v)) (no_full (w (slot_at t.at p)) c z e) m))
          (λ (l : LiveSlot s w (slot_rule t p k pl).0.before t p). lives l (subst (λ v. IsIn q (one_pair v)) l.packs (subst (λ v. IsIn q (held_in w v)) (sym e ∙ l.stands) m))) (slot_rule t p k pl).1
        where
          lives : (l : LiveSlot s w (slot_rule t p k pl).0.before t p) → IsIn q (one_pair (Some l.pair)) → Answered q
          lives l (inl x) = record {
            table = t.at;
            place = p;
            body = l.body;
            answers = live t.at p l.body q (record { stands = l.stands; packs = l.packs ∙ ap Some (sym x) }) refl
                (subst (λ (v : Pair). IsIn p (places s v.key)) (sym x) l.candidate)
                (on_chain s w so t k (hash s q.key) (l.suffix ∙ ap (λ (v : Pair). hash s v.key % 2 ^ t.depth) (sym x)));
          }
          lives l (inr x) = absurd x

      roles : (t : ImageTable) (o : ℕ) → IsIn t (tables s.geometry w) → o < table_words s.geometry → (r : _) → offset_role t.at o ≡ r → IsIn q (held_as w t r) → Answered q
      roles t o k b (SlotWord u p) e m = let x = slot_place t.at o u p e in content_cases t p k (slot_below s.geometry t.at o u p e b, x.2) (content (w (slot_at t.at p))) refl m
      roles t o k b _ e m = absurd m

      by : (x : WalkWord) → IsWalked s.geometry w x → IsIn q (held_by w x) → Answered q
      by x (in_table t o k b) m = roles t o k b (offset_role t.at o) refl m
      by x of_depth m = absurd m
      by x (of_directory j k) m = absurd m

  pub answers_held : (key : List ℕ) (t p : ℕ) (b : Body) (q : Pair) → Answers s w key t p b q → IsIn q (held w (walk s.geometry w))
  answers_held key t p b q a = let x = (answer_standing key t p b q a).0 in in_flat (held_by w) q (TableWord x.table (20 + p)) (walk s.geometry w) (subst (IsIn (TableWord x.table (20 + p))) (sym x.site.is) (split_in (TableWord x.table (20 + p)) x.site.before x.site.after)) (standing_held t p b q x)

  pub one : (key : List ℕ) (t u p r : ℕ) (b c : Body) (q z : Pair) → Answers s w key t p b q → Answers s w key u r c z → (t ≡ u) × (p ≡ r) × (b ≡ c)
  one key t u p r b c q z a d = let x = answer_standing key t p b q a in let y = answer_standing key u r c z d in one_standing t u p r b c q z x.0 y.0 (x.1 ∙ sym y.1)

  -- of one key there is one pair
  pub same_pair : (q z : Pair) → IsIn q (held w (walk s.geometry w)) → IsIn z (held w (walk s.geometry w)) → q.key ≡ z.key → q ≡ z
  same_pair q z h k e =
      let a = held_answers q h in
      let d = held_answers z k in
      let x = (answer_standing q.key a.table a.place a.body q a.answers).0 in
      let y = (answer_standing z.key d.table d.place d.body z d.answers).0 in
      let o = one_standing a.table d.table a.place d.place a.body d.body q z x y e in
      pairs (ap Some (sym x.pair) ∙ sym x.slot.packs ∙ ap (pair_from w) (x.body ∙ o.2 ∙ sym y.body) ∙ y.slot.packs ∙ ap Some y.pair)
    where
      pairs : {x y : Pair} → Some x ≡ Some y → x ≡ y
      pairs e = cc
