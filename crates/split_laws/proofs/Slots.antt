-- Step 6: the slots in order, and going on with a ticket.
use Rattle.std.specs.Prelude.{◌≡◌, ℕ, zero, suc, ◌+◌, ◌-◌, ◌<◌, ◌≤◌, ◌∷◌, Some, None, refl}
use Rattle.std.proofs.Common.{sym, ◌∙◌, subst, inl, arith}
use Rattle.slot_word.specs.declared.slots.Mark.TheVariants.{Moved as MovedMark}
use Rattle.node_words.specs.Addresses.{slot_at}
use Rattle.verb_log.specs.declared.kind.Kind.TheVariants.{Clear}
use Rattle.verb_log.specs.Decoded.{Body, Empty, Full, content}
use Rattle.verb_log.specs.Tables.{Past, word_at}
use Rattle.verbs.specs.Programs.{Prog}
use Rattle.race_laws.specs.Setting.{Setting}
use Rattle.race_laws.specs.Rows.{IsPlace}
use Rattle.race_laws.specs.Legal.{Meets, Legal}
use Rattle.race_laws.proofs.Slots.{content-0}
use Rattle.log_facts.specs.Since.{change_in}
use Rattle.log_facts.specs.Beside.{Firm}
use Rattle.log_facts.proofs.Following.{slot_meets}
use Rattle.log_facts.proofs.Marks.{word_is}
use Rattle.log_facts.proofs.Mild.{firm_on}
use Rattle.log_facts.proofs.Modest.{slot_modest}
use Rattle.log_facts.proofs.Within.{slot_within}
use Rattle.pass_laws.specs.SafeIn.{SafeBy}
use Rattle.pass_laws.proofs.Rules.{Holds, by_weaker, by_bind, by_kept}
use Rattle.split_text.specs.declared.site.Site.{Site}
use Rattle.split_text.specs.declared.moved.MoveOutcome.{MoveOutcome}
use Rattle.split_text.specs.declared.moved.MoveOutcome.TheVariants.{Done, Moved, Spent}
use Rattle.split_text.specs.declared.moved.MoveEnd.{MoveEnd}
use Rattle.split_text.specs.declared.resized.ResizeOutcome.TheVariants.{Again}
use Rattle.split_text.specs.declared.resized.ResizeEnd.{ResizeEnd}
use Rattle.split_text.specs.Words.{slot_count, place_of}
use Rattle.split_text.specs.Move.{judge, move}
use Rattle.split_text.specs.Text.{ticket_at, after_move, finish, slots, resume_at}
use Rattle.move_laws.specs.States.{Bare, Turned}
use Rattle.move_laws.specs.Law.{Moves, LeftSo, HasLeft}
use Rattle.move_laws.proofs.Judging.{judged_safe, move_safe}
use Rattle.move_laws.proofs.Moving.{is_child}
use Rattle.move_laws.proofs.Sites.{empty_clear, table_now, table_child_word}
use Rattle.move_laws.proofs.Stable.{turned_firm, bare_firm}
use Rattle.begin_laws.specs.States.{Modestly}
use Rattle.split_laws.specs.Ticket.{Around, Fits}
use Rattle.split_laws.proofs.Around.{Resting, around_firm, around_own, around_holds, resting_around, resting_busy, around_done}
use Rattle.split_laws.proofs.Places.{place_is}
use Rattle.split_laws.proofs.Sure.{sure_safe}

module _ (s : Setting) (c : ℕ) (site : Site) (top : ℕ) (End : Past → ResizeEnd → Type 0) where
  -- at the place of slot number i
  module _ (i : ℕ) (low : i < slot_count s.geometry) where
    abbrev p : ℕ
    p = place_of i

    pl : IsPlace s.geometry (place_of i)
    pl = place_is s.geometry i low

    -- the place was moved and is settled
    record Turn (b : Body) (q : Past) : Type 0 where
      pub turned : Turned s c site (place_of i) b q
      pub settled : Bare s site.child q (place_of i)
      pub around : Around s c site (place_of i) i q

    turn_firm : (b : Body) → Firm s c (Turn b)
    turn_firm b q e l bs h = record {
      turned = turned_firm s c site p b pl q e l bs h.turned;
      settled = bare_firm s c site q e l bs h.turned.open_now.going p pl h.settled;
      around = around_firm s c site p i q e l bs h.around;
    }

    clear_meets : (b : Body) (z : Past) → Legal s z → Turn b z → Meets s z (change_in s.geometry c z (slot_at site.table (place_of i)) 0)
    clear_meets b z lz t = slot_meets s c z lz site.table p 0 (Full MovedMark b) Empty (Some Clear) t.turned.open_now.going.table pl t.turned.moved content-0 refl
        (record { body = b; moved = t.turned.moved; child = site.child; is_child = is_child s c site z t.turned.open_now; settled = t.settled b; locked = t.turned.open_now.going.lock })

    -- Clear
    cleared : (b : Body) (z : Past) (lz : Legal s z) (t : Turn b z) → Resting s c site (i + 1) (change_in s.geometry c z (slot_at site.table (place_of i)) 0 ∷ z)
    cleared b z lz t =
        let e = change_in s.geometry c z (slot_at site.table p) 0 in
        let lm : Legal s (e ∷ z) = (lz, clear_meets b z lz t) in
        let now = table_now s c site z e lm p pl refl t.turned.open_now Empty content-0 in
        let a = around_own s c site p i pl z e lm (inl refl) t.around in
        around_done s c site i (e ∷ z) a (λ d x. let y = sym now ∙ x in cc) (λ d x. t.settled d (sym (table_child_word s c site z e lm p pl refl t.turned.open_now p pl) ∙ x)) (empty_clear s c site (e ∷ z) a.open_now p now)

    module _ (next : ℕ → Prog ResizeEnd) (ns : (left : ℕ) (z : Past) → 1 ≤ left → left ≤ top → Legal s z → Resting s c site (i + 1) z → SafeBy Modestly s c z (next left) End) (most : ℕ) (up : most ≤ top)
        (hu : (word standing : ℕ) (z : Past) → Legal s z → Fits s c (ticket_at s.geometry c site i word standing) z → End z (record { outcome = Again (Some (ticket_at s.geometry c site i word standing)); left = 0 })) where
      clear_safe : (word left : ℕ) (b : Body) → content word ≡ Full MovedMark b → 1 ≤ left → left ≤ top → (q : Past) → Legal s q → Turn b q → SafeBy Modestly s c q (after_move s.geometry c site i next (record { outcome = Moved; word = word; standing = 0; left = left }) Moved) End
      clear_safe word left b w lv up2 q l t = sure_safe s c End (slot_at site.table p) word 0 (next left) q (slot_within s q l site.table p t.turned.open_now.going.table pl)
          (λ z lz sz. let y = firm_on s c (Turn b) (turn_firm b) sz lz t in (
            word_is (word_at s.geometry z (slot_at site.table p)) MovedMark b y.turned.moved ∙ sym (word_is word MovedMark b w),
            (clear_meets b z lz y, slot_modest s c z lz site.table p 0 (Full MovedMark b) Empty y.turned.open_now.going.table pl y.turned.moved content-0 refl),
            ns left (change_in s.geometry c z (slot_at site.table p) 0 ∷ z) lv up2 (lz, clear_meets b z lz y) (cleared b z lz y),
          ))

      after_safe : (e : MoveEnd) (o : MoveOutcome) (q : Past) → Legal s q → e.left ≤ most → LeftSo s c site (place_of i) q e o → Around s c site (place_of i) i q → SafeBy Modestly s c q (after_move s.geometry c site i next e o) End
      after_safe e Done q l fw h a = ns e.left q h.3 (omega arith) l (around_done s c site i q a h.0.still h.0.stands h.1)
      after_safe e Moved q l fw h a = clear_safe e.word e.left h.0 h.3 h.5 (omega arith) q l (record { turned = h.1; settled = h.2; around = a })
      after_safe e Spent q l fw h a = subst (λ v. End q (record { outcome = Again (Some (ticket_at s.geometry c site i e.word e.standing)); left = v })) (sym h.4)
          (hu e.word e.standing q l (record { geometry = refl; client = refl; number = low; around = a; copy = h.0; copy_is = h.1; at = h.2; judging = h.3 }))

      -- judging, and what follows
      module _ (prog : Prog MoveEnd) (q : Past) (l : Legal s q) (a : Around s c site (place_of i) i q) (safe : SafeBy (Moves site (place_of i)) s c q prog (λ z e. HasLeft s c site (place_of i) most z e)) where
        both : Holds (Moves site (place_of i)) s c (λ z. Around s c site (place_of i) i z × Legal s z)
        both = let h = around_holds s c site p i pl in record { others = λ z e le o x. (h.others z e le o x.0, le); own = λ z e le r x. (h.own z e le r x.0, le) }

        pub judged_on : SafeBy Modestly s c q prog (λ z e. SafeBy Modestly s c z (after_move s.geometry c site i next e e.outcome) End)
        judged_on = by_weaker (Moves site p) s c Modestly (λ z e r. r.0) q prog (λ z e. HasLeft s c site p most z e × (Around s c site p i z × Legal s z)) (λ z e. SafeBy Modestly s c z (after_move s.geometry c site i next e e.outcome) End)
            (λ z e x. after_safe e e.outcome z x.1.1 x.0.fewer x.0.so x.1.0)
            (by_kept (Moves site p) s c (λ z. Around s c site p i z × Legal s z) both q prog (λ z e. HasLeft s c site p most z e) (a, l) safe)

  module _ (fs : (left : ℕ) (z : Past) → 1 ≤ left → left ≤ top → Legal s z → Resting s c site (slot_count s.geometry) z → SafeBy Modestly s c z (finish s.geometry c site left) End)
      (hu : (i word standing : ℕ) (z : Past) → Legal s z → Fits s c (ticket_at s.geometry c site i word standing) z → End z (record { outcome = Again (Some (ticket_at s.geometry c site i word standing)); left = 0 })) where
    pub slots_safe : (n i left : ℕ) → i + n ≡ slot_count s.geometry → 1 ≤ left → left ≤ top → (q : Past) → Legal s q → Resting s c site i q → SafeBy Modestly s c q (slots s.geometry c site n i left) End
    slots_safe zero i left all lv up q l h = fs left q lv up l (subst (λ v. Resting s c site v q) (whole i all) h)
      where
        whole : (i : ℕ) → i + 0 ≡ slot_count s.geometry → i ≡ slot_count s.geometry
        whole i e = omega arith
    slots_safe (suc n) i left all lv up q l h =
        let low : i < slot_count s.geometry = omega arith in
        let pl = place_is s.geometry i low in
        by_bind Modestly s c q (move site (place_of i) 0 left) (λ e. after_move s.geometry c site i (slots s.geometry c site n (i + 1)) e e.outcome) End
        (judged_on i low (slots s.geometry c site n (i + 1)) (λ left2 z lv2 up2 lz hz. slots_safe n (i + 1) left2 (omega arith) lv2 up2 z lz hz) left up (hu i) (move site (place_of i) 0 left) q l (resting_around s c site (place_of i) i q h)
        (move_safe s c site (place_of i) left pl left None q lv (at_least left) l (resting_busy s c site (place_of i) i pl q h)))
      where
        at_least : (x : ℕ) → x ≤ x
        at_least x = omega arith

    -- going on with a ticket that fits
    pub resumed_safe : (i word standing left : ℕ) → 1 ≤ left → left ≤ top → (q : Past) → Legal s q → Fits s c (ticket_at s.geometry c site i word standing) q → SafeBy Modestly s c q (resume_at s.geometry c site i word standing left) End
    resumed_safe i word standing left lv up q l h =
        let pl = place_is s.geometry i h.number in
        by_bind Modestly s c q (judge site (place_of i) (left - 1) word standing) (λ e. after_move s.geometry c site i (slots s.geometry c site (slot_count s.geometry - (i + 1)) (i + 1)) e e.outcome) End
        (judged_on i h.number (slots s.geometry c site (slot_count s.geometry - (i + 1)) (i + 1)) (λ left2 z lv2 up2 lz hz. slots_safe (slot_count s.geometry - (i + 1)) (i + 1) left2 (rest i (slot_count s.geometry) h.number) lv2 up2 z lz hz) left up (hu i) (judge site (place_of i) (left - 1) word standing) q l h.around
        (subst (λ v. SafeBy (Moves site (place_of i)) s c q (judge site (place_of i) (left - 1) word v) (λ z e. HasLeft s c site (place_of i) left z e)) h.copy_is
        (judged_safe s c site (place_of i) left pl left word h.copy h.at q lv (at_least left) l h.judging)))
      where
        at_least : (x : ℕ) → x ≤ x
        at_least x = omega arith

        rest : (i n : ℕ) → i < n → i + 1 + (n - (i + 1)) ≡ n
        rest i n h = omega arith
