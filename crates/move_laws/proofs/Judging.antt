-- Judging the words of one place, and reading it.
use Rattle.std.specs.Prelude.{◌≡◌, ℕ, zero, suc, ◌+◌, ◌-◌, ◌%◌, ◌^◌, ◌≤◌, ◌==◌, false, cond, nat_le, List, [], ◌∷◌, Option, Some, None, refl}
use Rattle.std.proofs.Common.{sym, ◌∙◌, ap, subst, inl, arith, le_refl}
use Rattle.std.proofs.lemmas.Bool.Decides.{nat_tests}
use Rattle.slot_word.specs.declared.slots.Mark.{Mark}
use Rattle.slot_word.specs.declared.slots.Mark.TheVariants.{Live, Pending, Copied, Moved}
use Rattle.slot_word.specs.declared.slots.Slot.{Slot}
use Rattle.slot_word.specs.Slots.{slot_of}
use Rattle.kv_block.specs.Packing.{Pair, unpacked}
use Rattle.kv_block.specs.Reading.{block_key}
use Rattle.kv_block.proofs.Packed.{packed_of_unpacked, IsPair-from_unpacked}
use Rattle.kv_block.proofs.ReadingLemmas.{block_key-packed}
use Rattle.node_words.specs.Addresses.{slot_at}
use Rattle.verb_log.specs.declared.entry.Verb.TheVariants.{Swap}
use Rattle.verb_log.specs.Decoded.{Body, Empty, Full, content}
use Rattle.verb_log.specs.Tables.{Past, here, word_at, words_at, pair_at}
use Rattle.verb_log.proofs.BlockWords.{pair_unpacked}
use Rattle.verbs.specs.Programs.{ask_hash, Prog, ask}
use Rattle.race_laws.specs.Setting.{Setting, hash}
use Rattle.race_laws.specs.Standing.{place_in, Exits, Word}
use Rattle.race_laws.specs.Splits.{WasClear}
use Rattle.race_laws.specs.Rows.{IsPlace}
use Rattle.race_laws.specs.Legal.{Legal}
use Rattle.race_laws.specs.Named.{Named}
use Rattle.race_laws.proofs.Positions.{legal_before}
use Rattle.race_laws.proofs.SoundStep.{sound}
use Rattle.race_laws.proofs.Slots.{standing_named, full_same, content-0}
use Rattle.race_laws.proofs.Clear.{clear_on}
use Rattle.log_facts.specs.Since.{Since, change_in}
use Rattle.log_facts.proofs.Growing.{since_before}
use Rattle.log_facts.proofs.Within.{slot_within, block_length}
use Rattle.log_facts.proofs.Mild.{firm_on}
use Rattle.log_facts.proofs.Modest.{slot_modest}
use Rattle.log_facts.proofs.Marks.{full_word}
use Rattle.pass_laws.specs.SafeIn.{Rule, MayBy, SafeBy}
use Rattle.pass_laws.proofs.Rules.{by_cond}
use Rattle.pass_laws.proofs.Blocks.{by_words}
use Rattle.pass_laws.proofs.Judging.{drop_meets}
use Rattle.pass_laws.proofs.SameWords.{body_of}
use Rattle.split_text.specs.declared.site.Site.{Site}
use Rattle.split_text.specs.declared.moved.MoveOutcome.TheVariants.{Done}
use Rattle.split_text.specs.declared.moved.MoveEnd.{MoveEnd}
use Rattle.split_text.specs.Move.{left_so, is_leaving, if_leaving, uncopy, drop_word, copy as copy_it, stay, judge_mark, judge_slot, judge_word, read_again, turn, judge, move}
use Rattle.move_laws.specs.States.{or_zero, Busy, ReadAt, Judging}
use Rattle.move_laws.specs.Law.{Moves, HasLeft}
use Rattle.move_laws.proofs.Stable.{busy_firm, judging_firm, was_clear_on}
use Rattle.move_laws.proofs.Marking.{equal, differ, slot_content, none_full, mark_same}
use Rattle.move_laws.proofs.Leaving.{leaving, staying}
use Rattle.move_laws.proofs.Sites.{busy_dropped}
use Rattle.move_laws.proofs.Moving.{uncopy_safe, read_here, copy_safe}

pairs_same : {o : Option Pair} {x y : Pair} → o ≡ Some x → o ≡ Some y → x ≡ y
pairs_same h k = cc

-- the key that the words of a block tell
words_key : (ws : List ℕ) (pr : Pair) → unpacked ws ≡ Some pr → block_key ws ≡ pr.key
words_key ws pr u = subst (λ v. block_key v ≡ pr.key) (packed_of_unpacked ws pr u) (block_key-packed pr (IsPair-from_unpacked ws pr u))

module _ (s : Setting) (c : ℕ) (site : Site) (p most : ℕ) (pl : IsPlace s.geometry p) where
  abbrev R : Rule
  R = Moves site p

  abbrev End : Past → MoveEnd → Type 0
  End q e = HasLeft s c site p most q e

  -- where a place that was read is done
  done_safe : (word left : ℕ) → 1 ≤ left → left ≤ most → (q : Past) → Busy s c site p None q → WasClear s q site.table site.depth p → SafeBy R s c q (left_so Done word 0 left) End
  done_safe word left lv fw q b w = record { so = (b, w, refl, lv); fewer = fw }

  module _ (word : ℕ) (copy : Option ℕ) (at : Past) where
    abbrev Here : Past → Type 0
    Here = Judging s c site p word copy at

    here_since : {q z : Past} → Since c q z → Legal s z → Here q → Here z
    here_since sz lz h = firm_on s c Here (judging_firm s c site p word copy at pl) sz lz h

    -- the word showed the place clear
    shown_clear : (q : Past) → Here q → ((m : Mark) (b : Body) (pr : Pair) → Word s.geometry at m site.table p b pr → Exits s at site.table pr.key site.depth → m ≡ Copied) → WasClear s q site.table site.depth p
    shown_clear q h f = record { at = at; before = h.1.before; clear = record { table = h.1.table; opened = h.1.opened; clear = f } }

    module _ (left : ℕ) (lv : 1 ≤ left) (fw : left ≤ most) where
      stay_safe : (q : Past) → Legal s q → Here q → WasClear s q site.table site.depth p → SafeBy R s c q (stay site p left word (or_zero copy)) End
      stay_safe q l h w = uncopy_safe s c site p most pl left copy (left_so Done word 0 left) q l h.0 (λ z lz bz y. done_safe word left lv fw z y (was_clear_on s bz site.table site.depth p w))

      -- a block of the table is read, and its key's hash is asked for
      module _ (m : Mark) (slot : Slot) (st : content word ≡ Full m (body_of slot)) where
        abbrev b : Body
        b = body_of slot

        stood : (q : Past) → Here q → place_in s.geometry at site.table p ≡ Full m (body_of slot)
        stood q h = ap content h.1.word_is ∙ st

        leaving_safe : (yes_prog no_prog : Prog MoveEnd) → ((z : Past) (pr : Pair) → Legal s z → Here z → Word s.geometry at m site.table p (body_of slot) pr → Exits s at site.table pr.key site.depth → SafeBy R s c z yes_prog End) → ((z : Past) → Legal s z → Here z → WasClear s z site.table site.depth p → SafeBy R s c z no_prog End) → (q : Past) → Legal s q → Here q → SafeBy R s c q (if_leaving site slot yes_prog no_prog) End
        leaving_safe yp np ys ns q l h =
            let la = legal_before s h.1.before l in
            let nm = standing_named s.geometry at (sound s at la) site.table p m b h.1.table pl (stood q h) in
            by_cond R s c End q (nat_le slot.len 137) _ np
            (λ v. by_words R s c End at b nm.pair nm nm.packs b.length b.at [] (words_at s.geometry at b.at b.length) refl (le_refl _) refl (λ ws. ask (ask_hash (block_key ws)) (λ hash. is_leaving site hash yp np)) q
            (λ z lz sz. subst (λ k. SafeBy R s c z (is_leaving site (hash s k) yp np) End) (sym (words_key (words_at s.geometry at b.at b.length) nm.pair (pair_unpacked s.geometry at b nm.pair nm.packs))) (by z lz (here_since sz lz h) nm)) h.1.before l)
            (λ v. absurd (long slot.len (block_length s.geometry at b nm.pair nm.packs) v))
          where
            long : (n : ℕ) → n ≤ 137 → nat_le n 137 ≡ false → ⊥
            long n x y = grind (arith, nat_tests)

            by : (z : Past) → Legal s z → Here z → (nm : Named s.geometry at (body_of slot)) → SafeBy R s c z (is_leaving site (hash s nm.pair.key) yp np) End
            by z lz hz nm =
                let w : Word s.geometry at m site.table p b nm.pair = record { stands = stood z hz; packs = nm.packs } in
                by_cond R s c End z (hash s nm.pair.key % 2 ^ (site.depth + 1) == site.suffix) yp np
                (λ v. ys z nm.pair lz hz w (leaving s c site z lz hz.0.open_now.going at hz.1.before hz.1.table p pl m b nm.pair w (equal (hash s nm.pair.key % 2 ^ (site.depth + 1)) site.suffix v)))
                (λ v. ns z lz hz (shown_clear z hz (λ m2 b2 pr2 w2 ex. absurd (stays z lz hz nm w v m2 b2 pr2 w2 ex))))
              where
                stays : (z : Past) → Legal s z → Here z → (nm : Named s.geometry at (body_of slot)) → Word s.geometry at m site.table p (body_of slot) nm.pair → (hash s nm.pair.key % 2 ^ (site.depth + 1) == site.suffix) ≡ false → (m2 : Mark) (b2 : Body) (pr2 : Pair) → Word s.geometry at m2 site.table p b2 pr2 → Exits s at site.table pr2.key site.depth → ⊥
                stays z lz hz nm w v m2 b2 pr2 w2 ex =
                    let same = full_same m m2 b b2 (sym w.stands ∙ w2.stands) in
                    let pr = pairs_same w.packs (ap (pair_at s.geometry at) same ∙ w2.packs) in
                    differ (hash s nm.pair.key % 2 ^ (site.depth + 1)) site.suffix (staying s c site z lz hz.0.open_now.going at hz.1.before hz.1.table p pl m b nm.pair w (subst (λ (x : Pair). Exits s at site.table x.key site.depth) (sym pr) ex)) v

      module _ (lost : ℕ → ℕ → Prog MoveEnd) (ls : (found : ℕ) (copy2 : Option ℕ) (z : Past) → Legal s z → Busy s c site p copy2 z → ReadAt s site p found z z → SafeBy R s c z (lost found (or_zero copy2)) End)
          (again : Prog MoveEnd) (rs : (WasClear s at site.table site.depth p → ⊥) → (z : Past) → Legal s z → Busy s c site p None z → WasClear s z site.table site.depth p → SafeBy R s c z again End) where
        -- a pending word of a leaving key
        drop_safe : (b : Body) → content word ≡ Full Pending b → (q : Past) → Legal s q → Busy s c site p None q → SafeBy R s c q (drop_word site p left word lost) End
        drop_safe b st q l y = (slot_within s q l site.table p y.open_now.going.table pl, λ z lz sz. by z lz (firm_on s c (Busy s c site p None) (busy_firm s c site p None pl) sz lz y))
          where
            by : (z : Past) → Legal s z → Busy s c site p None z → MayBy R s c z (Swap (slot_at site.table p) word 0) (λ n found. SafeBy R s c n (cond (found == word) (left_so Done word 0 left) (lost found 0)) End)
            by z lz yz = (
              (λ now.
                  let me = drop_meets s c z lz site.table p yz.open_now.going.table pl b (ap content now ∙ st) in
                  let e = change_in s.geometry c z (slot_at site.table p) 0 in (
                    (me, (slot_modest s c z lz site.table p 0 (Full Pending b) Empty yz.open_now.going.table pl (ap content now ∙ st) content-0 refl, inl refl)),
                    by_cond R s c End (e ∷ z) (word_at s.geometry z (slot_at site.table p) == word) (left_so Done word 0 left) (lost (word_at s.geometry z (slot_at site.table p)) 0)
                        (λ v. let d = busy_dropped s c site z e (lz, me) p pl refl content-0 yz in done_safe word left lv fw (e ∷ z) d.0 d.1)
                        (λ v. absurd (differ (word_at s.geometry z (slot_at site.table p)) word now v)),
                  )),
              (λ other. by_cond R s c End z (word_at s.geometry z (slot_at site.table p) == word) (left_so Done word 0 left) (lost (word_at s.geometry z (slot_at site.table p)) 0)
                  (λ v. absurd (other (equal (word_at s.geometry z (slot_at site.table p)) word v)))
                  (λ v. ls (word_at s.geometry z (slot_at site.table p)) None z lz yz (read_here s c site p z yz.open_now yz.still))),
            )

        mark_safe : (m : Mark) (slot : Slot) → content word ≡ Full m (body_of slot) → (q : Past) → Legal s q → Here q → SafeBy R s c q (judge_mark site p left word (or_zero copy) slot m again lost) End
        mark_safe Live slot st q l h = leaving_safe Live slot st (copy_it site p left word (or_zero copy) slot again lost) (stay site p left word (or_zero copy))
            (λ z pr lz hz w ex.
            let nc : WasClear s at site.table site.depth p → ⊥ = λ (wc : WasClear s at site.table site.depth p). (clear_on s wc.before (legal_before s hz.1.before lz) site.table site.depth p pl wc.clear Live (body_of slot) pr w ex).0 refl in
            copy_safe s c site p most pl slot (full_word word Live (body_of slot) st).0 left lv fw at word st pr w ex lost ls nc again (rs nc) copy z lz hz)
            (λ z lz hz w. stay_safe z lz hz w) q l h
        mark_safe Pending slot st q l h = leaving_safe Pending slot st (uncopy site p left (or_zero copy) (drop_word site p left word lost)) (stay site p left word (or_zero copy))
            (λ z pr lz hz w ex. uncopy_safe s c site p most pl left copy (drop_word site p left word lost) z lz hz.0 (λ y ly by yb. drop_safe (body_of slot) st y ly yb))
            (λ z lz hz w. stay_safe z lz hz w) q l h
        mark_safe Copied slot st q l h = stay_safe q l h (shown_clear q h (λ m2 b2 pr2 w ex. mark_same m2 Copied b2 (body_of slot) (sym w.stands ∙ stood Copied slot st q h)))
        mark_safe Moved slot st q l h = absurd (h.1.still at here h.1.before (body_of slot) (stood Moved slot st q h))

        slot_safe : (o : Option Slot) → slot_of word ≡ o → (q : Past) → Legal s q → Here q → SafeBy R s c q (judge_slot site p left word (or_zero copy) o again lost) End
        slot_safe None e q l h = stay_safe q l h (shown_clear q h (λ m2 b2 pr2 w ex. absurd (none_full word e m2 b2 (sym (ap content h.1.word_is) ∙ w.stands))))
        slot_safe (Some slot) e q l h = mark_safe slot.mark slot (slot_content word slot e) q l h

        pub word_safe : (q : Past) → Legal s q → Here q → SafeBy R s c q (judge_word site p left word (or_zero copy) again lost) End
        word_safe q l h = slot_safe (slot_of word) refl q l h

  module _ (left : ℕ) (lv : 1 ≤ left) (fw : left ≤ most) (lost : ℕ → ℕ → Prog MoveEnd) (ls : (found : ℕ) (copy2 : Option ℕ) (z : Past) → Legal s z → Busy s c site p copy2 z → ReadAt s site p found z z → SafeBy R s c z (lost found (or_zero copy2)) End) where
    -- after a lost Copy: the place was clear, so that no live word of a leaving key is read
    again_safe : (q : Past) → Legal s q → Busy s c site p None q → WasClear s q site.table site.depth p → SafeBy R s c q (read_again site p left lost) End
    again_safe q l y w = (
      slot_within s q l site.table p y.open_now.going.table pl,
      λ z lz sz.
          let yz = firm_on s c (Busy s c site p None) (busy_firm s c site p None pl) sz lz y in
          let wz = was_clear_on s (since_before sz) site.table site.depth p w in
          word_safe (word_at s.geometry z (slot_at site.table p)) None z left lv fw lost ls (left_so Done (word_at s.geometry z (slot_at site.table p)) 0 left)
          (λ nc x lx bx wx. absurd (nc wz)) z lz (yz, read_here s c site p z yz.open_now yz.still),
    )

    turn_safe : (word : ℕ) (copy : Option ℕ) (at q : Past) → Legal s q → Judging s c site p word copy at q → SafeBy R s c q (turn site p left word (or_zero copy) lost) End
    turn_safe word copy at q l h = word_safe word copy at left lv fw lost ls (read_again site p left lost) (λ nc z lz y w. again_safe z lz y w) q l h

  pub judge_safe : (n word : ℕ) (copy : Option ℕ) (at q : Past) → suc n ≤ most → Legal s q → Judging s c site p word copy at q → SafeBy R s c q (judge site p n word (or_zero copy)) End
  judge_safe zero word copy at q fw l h = turn_safe 1 (omega arith) fw _ (λ found copy2 z lz y r. record { so = (copy2, refl, z, (y, r), refl); fewer = omega arith }) word copy at q l h
  judge_safe (suc n) word copy at q fw l h = turn_safe (suc (suc n)) (omega arith) fw _ (λ found copy2 z lz y r. judge_safe n found copy2 z z (omega arith) lz (y, r)) word copy at q l h

  -- with so many swaps that may be lost
  pub judged_safe : (left word : ℕ) (copy : Option ℕ) (at q : Past) → 1 ≤ left → left ≤ most → Legal s q → Judging s c site p word copy at q → SafeBy R s c q (judge site p (left - 1) word (or_zero copy)) End
  judged_safe left word copy at q lv fw l h = judge_safe (left - 1) word copy at q (omega arith) l h

  pub move_safe : (left : ℕ) (copy : Option ℕ) (q : Past) → 1 ≤ left → left ≤ most → Legal s q → Busy s c site p copy q → SafeBy R s c q (move site p (or_zero copy) left) End
  move_safe left copy q lv fw l y = (
    slot_within s q l site.table p y.open_now.going.table pl,
    λ z lz sz.
        let yz = firm_on s c (Busy s c site p copy) (busy_firm s c site p copy pl) sz lz y in
        judged_safe left (word_at s.geometry z (slot_at site.table p)) copy z z lv fw lz (yz, read_here s c site p z yz.open_now yz.still),
  )
