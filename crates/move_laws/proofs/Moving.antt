-- Uncopy, Copy, Flip and Settle of one place.
use Rattle.std.specs.Prelude.{◌≡◌, ◌≢◌, ℕ, ◌+◌, ◌-◌, ◌<◌, ◌≤◌, ◌==◌, cond, true, ◌∷◌, Option, Some, None, refl}
use Rattle.std.proofs.Common.{sym, ◌∙◌, ap, subst, inl, inr, arith, ⊎_elim}
use Rattle.slot_word.specs.declared.slots.Mark.TheVariants.{Live, Copied, Moved}
use Rattle.slot_word.specs.declared.slots.Slot.{Slot}
use Rattle.kv_block.specs.Packing.{Pair}
use Rattle.node_words.specs.Addresses.{slot_at}
use Rattle.verb_log.specs.declared.entry.Entry.{Entry}
use Rattle.verb_log.specs.declared.entry.Verb.TheVariants.{Swap}
use Rattle.verb_log.specs.declared.kind.Kind.TheVariants.{Copy, Uncopy, Flip, Settle}
use Rattle.verb_log.specs.Decoded.{Body, Content, Empty, Full, content}
use Rattle.verb_log.specs.Tables.{Past, Before, here, later, word_at}
use Rattle.verb_log.specs.Kinds.{slot_kind, only_if, same_body}
use Rattle.verbs.specs.Programs.{Prog}
use Rattle.race_laws.specs.Setting.{Setting}
use Rattle.race_laws.specs.Standing.{IsTable, header_in, birth_in, child_in, place_in, depth, Exits, Word}
use Rattle.race_laws.specs.Splits.{IsOpen, WasClear, IsChild}
use Rattle.race_laws.specs.Rows.{IsPlace, WasLive}
use Rattle.race_laws.specs.Legal.{Meets, Legal}
use Rattle.race_laws.specs.Named.{Named}
use Rattle.race_laws.proofs.Positions.{legal_before, before_total, before_same}
use Rattle.race_laws.proofs.Touch.{word_put}
use Rattle.race_laws.proofs.SoundStep.{sound, packs_later}
use Rattle.race_laws.proofs.Slots.{standing_named, content-0}
use Rattle.race_laws.proofs.Splits.{Born}
use Rattle.race_laws.proofs.Passes.{exits_later}
use Rattle.log_facts.specs.Since.{change_in}
use Rattle.log_facts.specs.Entries.{uses_fresh}
use Rattle.log_facts.proofs.Growing.{since_before}
use Rattle.log_facts.proofs.Within.{slot_within}
use Rattle.log_facts.proofs.Mild.{firm_on}
use Rattle.log_facts.proofs.Modest.{fresh_if, slot_modest}
use Rattle.log_facts.proofs.Marks.{Fields, word_is, content_marked, empty_word}
use Rattle.log_facts.specs.SlotWords.{marked}
use Rattle.log_facts.proofs.Never.{never_live}
use Rattle.log_facts.proofs.Filled.{Fill, empty, a_copy, is_moved, was_clear, filled}
use Rattle.log_facts.proofs.Following.{same_itself, slot_meets}
use Rattle.pass_laws.specs.SafeIn.{Rule, MayBy, SafeBy}
use Rattle.pass_laws.proofs.Rules.{by_cond}
use Rattle.split_text.specs.declared.site.Site.{Site}
use Rattle.split_text.specs.declared.moved.MoveEnd.{MoveEnd}
use Rattle.split_text.specs.Begin.{sure}
use Rattle.split_text.specs.declared.moved.MoveOutcome.TheVariants.{Moved as MovedOn}
use Rattle.split_text.specs.Move.{left_so, uncopy, settle, flip, copy as copy_it}
use Rattle.move_laws.specs.States.{Opened, Still, Bare, or_zero, Busy, ReadAt, Judging, Turned}
use Rattle.move_laws.specs.Law.{Moves, HasLeft}
use Rattle.move_laws.proofs.Stable.{going_born, parent_lock, busy_firm, judging_firm, turned_firm, read_later}
use Rattle.move_laws.proofs.Marking.{equal, differ}
use Rattle.move_laws.proofs.Sites.{child_fills, busy_child, turned_settled, busy_flipped}
use Rattle.pass_laws.proofs.SameWords.{body_of}

-- c is the child of the table
pub is_child : (s : Setting) (c : ℕ) (site : Site) (z : Past) → Opened s c site z → IsChild s.geometry z site.table site.child
is_child s c site z o = record {
  below = subst (λ v. depth v < s.geometry.max_depth) (sym o.splits) o.going.below;
  linked = ap (λ v. child_in s.geometry z site.table (depth v)) o.splits ∙ o.going.link;
  some = o.going.some;
}

-- the word that stands now
pub read_here : (s : Setting) (c : ℕ) (site : Site) (p : ℕ) → (z : Past) → Opened s c site z → Still s site.table z p → ReadAt s site p (word_at s.geometry z (slot_at site.table p)) z z
read_here s c site p z o st = record {
  before = here;
  table = o.going.table;
  opened = subst (λ v. IsOpen v site.depth) (sym o.splits) (at_least site.depth);
  word_is = refl;
  still = λ x a x2. subst (λ v. Still s site.table v p) (before_same a x2) st;
}
  where
    at_least : (x : ℕ) → x ≤ x
    at_least x = omega arith

module _ (s : Setting) (c : ℕ) (site : Site) (p most : ℕ) (pl : IsPlace s.geometry p) where
  abbrev R : Rule
  R = Moves site p

  abbrev End : Past → MoveEnd → Type 0
  End q e = HasLeft s c site p most q e

  -- a copy that stands is taken away
  module _ (z : Past) (l : Legal s z) (w : ℕ) (b : Busy s c site p (Some w) z) where
    abbrev uncopying : Entry
    uncopying = change_in s.geometry c z (slot_at site.child p) 0

    parent_still : (d : Body) → place_in s.geometry z (birth_in s.geometry z site.child).parent p ≢ Full Moved d
    parent_still d x = let born = going_born s c site z l b.open_now.going in b.still d (ap (λ v. place_in s.geometry z v p) (sym born.parent) ∙ x)

    uncopy_meets : Meets s z (change_in s.geometry c z (slot_at site.child p) 0)
    uncopy_meets =
        let born = going_born s c site z l b.open_now.going in
        slot_meets s c z l site.child p 0 (Full Copied b.stands.0) Empty (Some Uncopy) born.table pl (ap content b.stands.2 ∙ b.stands.1) content-0 refl
        (record { not_moved = parent_still; locked = parent_lock s c site z l b.open_now.going })

    uncopied : Busy s c site p None (change_in s.geometry c z (slot_at site.child p) 0 ∷ z)
    uncopied = busy_child s c site z uncopying (l, uncopy_meets) p pl (Some w) None refl b (λ d x. let y = sym (ap content (word_put s.geometry z uncopying (slot_at site.child p) refl) ∙ content-0) ∙ x in absurd (cc))

  copy_some : (w : ℕ) (b : Body) → content w ≡ Full Copied b → (w == 0) ≡ true → ⊥
  copy_some w b h v = let z : w ≡ 0 = equal w 0 v in let y = sym h ∙ ap content z ∙ content-0 in absurd (cc)

  pub uncopy_safe : (left : ℕ) (copy : Option ℕ) (go_on : Prog MoveEnd) (q : Past) → Legal s q → Busy s c site p copy q → ((z : Past) → Legal s z → Before q z → Busy s c site p None z → SafeBy R s c z go_on End) → SafeBy R s c q (uncopy site p left (or_zero copy) go_on) End
  uncopy_safe left None go_on q l b f = f q l here b
  uncopy_safe left (Some w) go_on q l b f = by_cond R s c End q (w == 0) go_on (sure (slot_at site.child p) w 0 go_on)
      (λ v. absurd (copy_some w b.stands.0 b.stands.1 v))
      (λ v. (
        slot_within s q l site.child p (going_born s c site q l b.open_now.going).table pl,
        λ z lz sz. let bb = firm_on s c (Busy s c site p (Some w)) (busy_firm s c site p (Some w) pl) sz lz b in (
          (λ now. (
            (uncopy_meets z lz w bb, (slot_modest s c z lz site.child p 0 (Full Copied bb.stands.0) Empty (going_born s c site z lz bb.open_now.going).table pl (ap content bb.stands.2 ∙ bb.stands.1) content-0 refl, inr refl)),
            f (change_in s.geometry c z (slot_at site.child p) 0 ∷ z) (lz, uncopy_meets z lz w bb) (later (since_before sz)) (uncopied z lz w bb),
          )),
          (λ other. absurd (other bb.stands.2)),
        ),
      ))

  -- the block of a live word
  module _ (slot : Slot) (fields : Fields (body_of slot)) (left : ℕ) (lv : 1 ≤ left) (fw : left ≤ most) where
    abbrev b : Body
    b = body_of slot

    -- Settle, which another client may have done
    settle_meets : (z : Past) → Legal s z → Turned s c site p (body_of slot) z → place_in s.geometry z site.child p ≡ Full Copied (body_of slot) → Meets s z (change_in s.geometry c z (slot_at site.child p) (marked Live (body_of slot)))
    settle_meets z lz t cp =
        let born = going_born s c site z lz t.open_now.going in
        slot_meets s c z lz site.child p (marked Live b) (Full Copied b) (Full Live b) (Some Settle) born.table pl cp (content_marked Live b fields) (ap (λ v. only_if v Settle) (same_itself b))
        (record { body = b; word = content_marked Live b fields; moved = ap (λ v. place_in s.geometry z v p) born.parent ∙ t.moved })

    pub settle_safe : (q : Past) → Legal s q → Turned s c site p (body_of slot) q → SafeBy R s c q (settle site p left slot) End
    settle_safe q l t = (slot_within s q l site.child p (going_born s c site q l t.open_now.going).table pl, λ z lz sz. by z lz (firm_on s c (Turned s c site p b) (turned_firm s c site p b pl) sz lz t))
      where
        bare_put : (z : Past) (e : Entry) → slot_at site.child p ≡ e.at → content e.new ≡ Full Live b → Bare s site.child (e ∷ z) p
        bare_put z e a n d x = let y = sym (ap content (word_put s.geometry z e (slot_at site.child p) a) ∙ n) ∙ x in cc

        ended : (z : Past) → Turned s c site p (body_of slot) z → Bare s site.child z p → HasLeft s c site p most z (record { outcome = MovedOn; word = marked Moved (body_of slot); standing = 0; left = left })
        ended z t bare = record { so = (body_of slot, t, bare, content_marked Moved (body_of slot) fields, refl, lv); fewer = fw }

        by : (z : Past) → Legal s z → Turned s c site p (body_of slot) z → MayBy R s c z (Swap (slot_at site.child p) (marked Copied (body_of slot)) (marked Live (body_of slot))) (λ n found. SafeBy R s c n (left_so MovedOn (marked Moved (body_of slot)) 0 left) End)
        by z lz tz = (
          (λ now. let cp = ap content now ∙ content_marked Copied b fields in let me = settle_meets z lz tz cp in let e = change_in s.geometry c z (slot_at site.child p) (marked Live b) in
              let bare = bare_put z e refl (content_marked Live b fields) in
              ((me, (slot_modest s c z lz site.child p (marked Live b) (Full Copied b) (Full Live b) (going_born s c site z lz tz.open_now.going).table pl cp (content_marked Live b fields) (fresh_if (same_body b b) Settle refl), inr refl)), ended (e ∷ z) (turned_settled s c site z e (lz, me) p pl b refl tz bare) bare)),
          (λ other. ended z tz (⊎_elim (λ (x : place_in s.geometry z site.child p ≡ Full Copied b). absurd (other (word_is (word_at s.geometry z (slot_at site.child p)) Copied b x))) (λ x. x) tz.copy)),
        )

    -- Flip: lost, the word found is judged
    module _ (at : Past) (word : ℕ) (says : content word ≡ Full Live (body_of slot)) (pr : Pair) (live : Word s.geometry at Live site.table p (body_of slot) pr) (leaves : Exits s at site.table pr.key site.depth)
        (lost : ℕ → ℕ → Prog MoveEnd) (ls : (found : ℕ) (copy2 : Option ℕ) (z : Past) → Legal s z → Busy s c site p copy2 z → ReadAt s site p found z z → SafeBy R s c z (lost found (or_zero copy2)) End) where
      abbrev Now : Past → Type 0
      Now = Judging s c site p word (Some (marked Copied (body_of slot))) at

      copy_stands : (z : Past) → Busy s c site p (Some (marked Copied (body_of slot))) z → place_in s.geometry z site.child p ≡ Full Copied (body_of slot)
      copy_stands z y = ap content y.stands.2 ∙ content_marked Copied b fields

      named : (z : Past) → Legal s z → ReadAt s site p word at z → Named s.geometry at (body_of slot)
      named z lz r = standing_named s.geometry at (sound s at (legal_before s r.before lz)) site.table p Live b r.table pl live.stands

      flip_meets : (z : Past) → Legal s z → Now z → word_at s.geometry z (slot_at site.table p) ≡ word → Meets s z (change_in s.geometry c z (slot_at site.table p) (marked Moved (body_of slot)))
      flip_meets z lz h now =
          let y = h.0 in let r = h.1 in
          let st = ap content now ∙ says in
          slot_meets s c z lz site.table p (marked Moved b) (Full Live b) (Full Moved b) (Some Flip) y.open_now.going.table pl st (content_marked Moved b fields) (ap (λ v. only_if v Flip) (same_itself b))
          (record {
            level = site.depth;
            splits = y.open_now.splits;
            body = b;
            pair = pr;
            word = record { stands = st; packs = packs_later s r.before lz b (named z lz r) ∙ live.packs };
            leaving = exits_later s r.before lz site.table site.depth pr.key r.table leaves;
            child = site.child;
            is_child = is_child s c site z y.open_now;
            copied = copy_stands z y;
            locked = y.open_now.going.lock;
          })

      pub flip_safe : (q : Past) → Legal s q → Now q → SafeBy R s c q (flip site p left word slot lost) End
      flip_safe q l h = (slot_within s q l site.table p h.0.open_now.going.table pl, λ z lz sz. by z lz (firm_on s c Now (judging_firm s c site p word (Some (marked Copied b)) at pl) sz lz h))
        where
          by : (z : Past) → Legal s z → Now z → MayBy R s c z (Swap (slot_at site.table p) word (marked Moved (body_of slot))) (λ n found. SafeBy R s c n (cond (found == word) (settle site p left slot) (lost found (marked Copied (body_of slot)))) End)
          by z lz y = (
            (λ now. let me = flip_meets z lz y now in let e = change_in s.geometry c z (slot_at site.table p) (marked Moved b) in (
              (me, (slot_modest s c z lz site.table p (marked Moved b) (Full Live b) (Full Moved b) y.0.open_now.going.table pl (ap content now ∙ says) (content_marked Moved b fields) (fresh_if (same_body b b) Flip refl), inl refl)),
              by_cond R s c End (e ∷ z) (word_at s.geometry z (slot_at site.table p) == word) (settle site p left slot) (lost (word_at s.geometry z (slot_at site.table p)) (marked Copied b))
                  (λ v. settle_safe (e ∷ z) (lz, me) (busy_flipped s c site z e (lz, me) p pl (Some (marked Copied b)) b refl (content_marked Moved b fields) (copy_stands z y.0) y.0))
                  (λ v. absurd (differ (word_at s.geometry z (slot_at site.table p)) word now v)),
            )),
            (λ other. by_cond R s c End z (word_at s.geometry z (slot_at site.table p) == word) (settle site p left slot) (lost (word_at s.geometry z (slot_at site.table p)) (marked Copied b))
                (λ v. absurd (other (equal (word_at s.geometry z (slot_at site.table p)) word v)))
                (λ v. ls (word_at s.geometry z (slot_at site.table p)) (Some (marked Copied b)) z lz y.0 (read_here s c site p z y.0.open_now y.0.still))),
          )

      -- Copy: lost, the slot is read again, and the place was clear
      module _ (not_clear : WasClear s at site.table site.depth p → ⊥) (again : Prog MoveEnd) (rs : (z : Past) → Legal s z → Busy s c site p None z → WasClear s z site.table site.depth p → SafeBy R s c z again End) where
        copied_before : (copy : Option ℕ) (z : Past) → Busy s c site p copy z → word_at s.geometry z (slot_at site.child p) ≡ or_zero copy → (o : Content) × (place_in s.geometry z site.child p ≡ o) × (slot_kind o (Full Copied (body_of slot)) ≡ Some Copy)
        copied_before None z y now = (Empty, ap content now ∙ content-0, refl)
        copied_before (Some w) z y now = (Full Copied y.stands.0, ap content y.stands.2 ∙ y.stands.1, refl)

        copy_meets : (copy : Option ℕ) (z : Past) → Legal s z → Judging s c site p word copy at z → word_at s.geometry z (slot_at site.child p) ≡ or_zero copy → Meets s z (change_in s.geometry c z (slot_at site.child p) (marked Copied (body_of slot)))
        copy_meets copy z lz h now =
            let y = h.0 in let r = h.1 in
            let g = y.open_now.going in
            let born = going_born s c site z lz g in
            let old = copied_before copy z y now in
            slot_meets s c z lz site.child p (marked Copied b) old.0 (Full Copied b) (Some Copy) born.table pl old.1 (content_marked Copied b fields) old.2
            (record {
              level = site.depth;
              born = born.level;
              below = g.below;
              splits = ap (header_in s.geometry z) born.parent ∙ y.open_now.splits;
              body = b;
              word = content_marked Copied b fields;
              not_moved = λ d x. y.still d (ap (λ v. place_in s.geometry z v p) (sym born.parent) ∙ x);
              never_moved = λ x bx tx ox mx. never z lz r x bx (subst (IsTable s.geometry x) born.parent tx) (ap (λ v. place_in s.geometry x v p) (sym born.parent) ∙ mx);
              live = subst (λ v. WasLive s z v site.depth p b) (sym born.parent) (record { at = at; before = r.before; table = r.table; opened = r.opened; pair = pr; live = live; leaving = leaves });
              locked = parent_lock s c site z lz g;
            })
          where
            never : (z : Past) → Legal s z → ReadAt s site p word at z → (x : Past) → Before x z → IsTable s.geometry x site.table → place_in s.geometry x site.table p ≡ Full Moved (body_of slot) → ⊥
            never z lz r x bx tx mx = ⊎_elim (λ (y : Before x at). never_live s y (legal_before s r.before lz) site.table p b tx pl mx live.stands) (λ (y : Before at x). r.still x y bx b mx) (before_total bx r.before)

        copied : (copy : Option ℕ) (z : Past) (lz : Legal s z) (me : Meets s z (change_in s.geometry c z (slot_at site.child p) (marked Copied (body_of slot)))) → Judging s c site p word copy at z → Now (change_in s.geometry c z (slot_at site.child p) (marked Copied (body_of slot)) ∷ z)
        copied copy z lz me h =
            let e = change_in s.geometry c z (slot_at site.child p) (marked Copied b) in
            let y = busy_child s c site z e (lz, me) p pl copy (Some (marked Copied b)) refl h.0 (b, content_marked Copied b fields, word_put s.geometry z e (slot_at site.child p) refl) in
            (y, read_later s site p word at z e y.still h.1)

        -- the place of the child was used by another key: the place of the table was clear
        lost_clear : (z : Past) → Legal s z → Busy s c site p None z → word_at s.geometry z (slot_at site.child p) ≢ 0 → WasClear s z site.table site.depth p
        lost_clear z lz y n =
            let born = going_born s c site z lz y.open_now.going in
            by born (filled s z lz site.child p born.table pl (child_fills s c site z lz y.open_now))
          where
            minus : (x d : ℕ) → x ≡ d + 1 → x - 1 ≡ d
            minus x d h = omega arith

            by : Born s.geometry z site.table site.depth site.child → Fill s z site.child p → WasClear s z site.table site.depth p
            by born (empty x) = absurd (n (empty_word (word_at s.geometry z (slot_at site.child p)) x))
            by born (a_copy d x) = absurd (y.stands d x)
            by born (is_moved d x) = absurd (y.still d (ap (λ v. place_in s.geometry z v p) (sym born.parent) ∙ x))
            by born (was_clear x) = subst (λ v. WasClear s z v site.depth p) born.parent (subst (λ v. WasClear s z (birth_in s.geometry z site.child).parent v p) (minus (birth_in s.geometry z site.child).depth site.depth born.level) x)

        pub copy_safe : (copy : Option ℕ) (q : Past) → Legal s q → Judging s c site p word copy at q → SafeBy R s c q (copy_it site p left word (or_zero copy) slot again lost) End
        copy_safe copy q l h = (slot_within s q l site.child p (going_born s c site q l h.0.open_now.going).table pl, λ z lz sz. by copy z lz (firm_on s c (Judging s c site p word copy at) (judging_firm s c site p word copy at pl) sz lz h))
          where
            lost_safe : (copy : Option ℕ) (z : Past) → Legal s z → Judging s c site p word copy at z → word_at s.geometry z (slot_at site.child p) ≢ or_zero copy → SafeBy R s c z again End
            lost_safe None z lz y other = rs z lz y.0 (lost_clear z lz y.0 other)
            lost_safe (Some w) z lz y other = absurd (other y.0.stands.2)

            by : (copy : Option ℕ) (z : Past) → Legal s z → Judging s c site p word copy at z → MayBy R s c z (Swap (slot_at site.child p) (or_zero copy) (marked Copied (body_of slot))) (λ n found. SafeBy R s c n (cond (found == or_zero copy) (flip site p left word slot lost) again) End)
            by copy z lz y = (
              (λ now. let me = copy_meets copy z lz y now in let e = change_in s.geometry c z (slot_at site.child p) (marked Copied b) in (
                (me, (let old = copied_before copy z y.0 now in slot_modest s c z lz site.child p (marked Copied b) old.0 (Full Copied b) (going_born s c site z lz y.0.open_now.going).table pl old.1 (content_marked Copied b fields) (ap uses_fresh old.2), inr refl)),
                by_cond R s c End (e ∷ z) (word_at s.geometry z (slot_at site.child p) == or_zero copy) (flip site p left word slot lost) again
                    (λ v. flip_safe (e ∷ z) (lz, me) (copied copy z lz me y))
                    (λ v. absurd (differ (word_at s.geometry z (slot_at site.child p)) (or_zero copy) now v)),
              )),
              (λ other. by_cond R s c End z (word_at s.geometry z (slot_at site.child p) == or_zero copy) (flip site p left word slot lost) again
                  (λ v. absurd (other (equal (word_at s.geometry z (slot_at site.child p)) (or_zero copy) v)))
                  (λ v. lost_safe copy z lz y other)),
            )
