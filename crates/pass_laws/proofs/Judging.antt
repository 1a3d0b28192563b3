-- A word of a candidate slot is judged.
use Rattle.std.specs.Prelude.{◌≡◌, ◌≢◌, ℕ, zero, suc, ◌≤◌, Bool, true, false, cond, ◌&&◌, nat_le, ◌==◌, List, ◌∷◌, Option, Some, None, ◌⊎◌, refl}
use Rattle.std.proofs.Common.{sym, ◌∙◌, ap, subst, inr, arith, ⊎_elim}
use Rattle.std.proofs.lemmas.Bool.Decides.{nat_tests}
use Rattle.slot_word.specs.declared.slots.Mark.{Mark}
use Rattle.slot_word.specs.declared.slots.Mark.TheVariants.{Live, Pending, Copied, Moved}
use Rattle.slot_word.specs.declared.births.Birth.{Birth}
use Rattle.kv_block.specs.Packing.{Pair}
use Rattle.bucket_group.specs.Buckets.{fingerprint_of}
use Rattle.node_words.specs.Addresses.{slot_at}
use Rattle.verb_log.specs.declared.entry.Entry.{Entry}
use Rattle.verb_log.specs.declared.entry.Verb.TheVariants.{Swap}
use Rattle.verb_log.specs.Decoded.{Body, Content, Empty, Full, NoSlot, content}
use Rattle.verb_log.specs.Tables.{Past, Before, here, later, word_at, pair_at}
use Rattle.verb_log.specs.declared.kind.Kind.TheVariants.{Drop}
use Rattle.verb_log.specs.Kinds.{kind, kind_of_role, slot_kind}
use Rattle.verb_log.proofs.Positions.{Before-trans}
use Rattle.verbs.specs.Programs.{do_verb, Prog, ret, ask}
use Rattle.race_laws.specs.Setting.{Setting, hash, places, print_of}
use Rattle.race_laws.specs.Standing.{IsTable, place_in, Word, IsIn}
use Rattle.race_laws.specs.Chains.{IsCandidate, Holder, live}
use Rattle.race_laws.specs.Looks.{Searched, InOrder, Answers, IsMiss, Passing}
use Rattle.race_laws.specs.Rows.{IsPlace}
use Rattle.race_laws.specs.Legal.{Meets, Legal}
use Rattle.race_laws.proofs.Positions.{legal_before}
use Rattle.race_laws.proofs.SoundStep.{sound}
use Rattle.race_laws.proofs.Covers.{table_before}
use Rattle.race_laws.proofs.Slots.{slot_is, standing_named, full_same, content-0}
use Rattle.race_laws.proofs.Touch.{word_put}
use Rattle.race_laws.proofs.Frames.{birth_before}
use Rattle.race_laws.proofs.Passes.{in_order_span, passing_span}
use Rattle.race_laws.proofs.Candidates.{word_candidate}
use Rattle.race_laws.proofs.Presence.{candidate_place, copy_present}
use Rattle.log_facts.specs.Since.{change_in}
use Rattle.pass_laws.specs.SafeIn.{MayBy}
use Rattle.pass_laws.proofs.ListPass.{Aim, Mode, look, sweep, walk, Seen, held, Ended, answers, own_of, judge_pending, judge_mark, judge_content, judge}
use Rattle.log_facts.specs.Start.{Start}
use Rattle.pass_laws.proofs.ListEnd.{Reads, IsSweep, PassEnd, Dropping, SafeDrops}
use Rattle.race_laws.proofs.Sound.{judged_is}
use Rattle.kv_block.specs.Bytes.{AreBytes}
use Rattle.log_facts.proofs.Growing.{since_before}
use Rattle.log_facts.proofs.Following.{slot_meets}
use Rattle.log_facts.proofs.Within.{block_length, slot_within}
use Rattle.log_facts.proofs.Prints.{prints}
use Rattle.log_facts.proofs.Starts.{start_before}
use Rattle.log_facts.proofs.Passings.{passing_table, passing_behind}
use Rattle.pass_laws.proofs.Seen.{PrevSaw, answering, not_answering}
use Rattle.pass_laws.proofs.Rules.{by_cond}
use Rattle.pass_laws.proofs.Blocks.{by_block}

abbrev pub aim_of : Setting → List ℕ → Aim
aim_of s key = record { key = key; hash = hash s key }

mark_of : (m n : Mark) (b c : Body) → Full m b ≡ Full n c → m ≡ n
mark_of m n b c h = cc

module _ (s : Setting) (key : List ℕ) (own : Option ℕ) (prev : Option Searched) (t p : ℕ) (r : Past) where
  -- marks with which a word may not show the key
  abbrev pub Bad : Mark → Body → Type 0
  Bad Live b = Unit {0}
  Bad Pending b = (a : ℕ) × (own ≡ Some a)
  Bad Copied b = Answers s prev p b
  Bad Moved b = ⊥

  abbrev pub Missed : Type 0
  Missed = IsMiss s key own prev t (record { place = p; at = r })

  pub miss_full : (m : Mark) (b : Body) → place_in s.geometry r t p ≡ Full m b → ((q : Pair) → pair_at s.geometry r b ≡ Some q → q.key ≡ key → Bad m b → ⊥) → Missed
  miss_full m b st f = record {
    live = λ d x w k. by Live d x w k tt;
    copied = λ d x w k an. by Copied d x w k an;
    pending = λ a o d x w k. by Pending d x w k (a, o);
  }
    where
      by : (n : Mark) (d : Body) (x : Pair) → Word s.geometry r n t p d x → x.key ≡ key → Bad n d → ⊥
      by n d x w k bad =
          let e = sym st ∙ w.stands in
          let be = full_same m n b d e in
          f x (ap (pair_at s.geometry r) be ∙ w.packs) k (subst (λ v. Bad m v) (sym be) (subst (λ v. Bad v d) (sym (mark_of m n b d e)) bad))

  pub miss_none : ((m : Mark) (b : Body) → place_in s.geometry r t p ≡ Full m b → ⊥) → Missed
  miss_none f = record {
    live = λ d x w k. f Live d w.stands;
    copied = λ d x w k an. f Copied d w.stands;
    pending = λ a o d x w k. f Pending d w.stands;
  }

-- a drop may follow
module _ (s : Setting) (c : ℕ) (q : Past) (l : Legal s q) (t p : ℕ) (h : IsTable s.geometry q t) (k : IsPlace s.geometry p) (b : Body) (st : place_in s.geometry q t p ≡ Full Pending b) where
  pub drop_meets : Meets s q (change_in s.geometry c q (slot_at t p) 0)
  drop_meets = slot_meets s c q l t p 0 (Full Pending b) Empty (Some Drop) h k st content-0 refl tt

  -- and is one
  pub drop_is : kind s.geometry q (change_in s.geometry c q (slot_at t p) 0) ≡ Some Drop
  drop_is = ap (kind_of_role s.geometry q e) (judged_is s.geometry q (sound s q l) (slot_at t p) ∙ slot_is s.geometry q (sound s q l) t p h k) ∙ ap (λ v. slot_kind v (content 0)) st ∙ ap (slot_kind (Full Pending b)) content-0
    where
      e : Entry
      e = change_in s.geometry c q (slot_at t p) 0

-- one candidate of one table
module _ (s : Setting) (c : ℕ) (key : List ℕ) (bytes : AreBytes key) (mode : Mode) (reads : Reads mode) (from : Past) (prev : Option Searched) (shown : Option Seen) (t : ℕ) (since : Past) (ps : PrevSaw s.geometry prev shown) (pass : Passing InOrder s key (own_of mode) from prev t since) (p : ℕ) (cand : IsIn p (places s key)) (base : Past) (bs : Before since base) where
  abbrev End : Past → Ended → Type 0
  End q e = PassEnd s key mode from q e

  abbrev Miss : Past → Type 0
  Miss r = Missed s key (own_of mode) prev t p r

  -- what follows a reading that misses is safe
  abbrev Next : (ℕ → ℕ → Prog Ended) → Type 0
  Next next = (r q : Past) (word left : ℕ) → Before base r → Before r q → Legal s q → word_at s.geometry r (slot_at t p) ≡ word → Miss r → 1 ≤ left → SafeDrops mode s c q (next word left) End

  abbrev Start0 : Past → Type 0
  Start0 q = Start s.geometry q (hash s key) t

  plc : IsPlace s.geometry p
  plc = candidate_place s key p cand

  table_at : (q : Past) → Before base q → Legal s q → IsTable s.geometry q t
  table_at q b l = let bq = Before-trans bs b in table_before s.geometry bq t t (passing_table s key (own_of mode) from prev t since (legal_before s bq l) pass)

  module _ (left word : ℕ) (r q : Past) (br : Before base r) (rq : Before r q) (l : Legal s q) (wd : word_at s.geometry r (slot_at t p) ≡ word) (st0 : Start0 q) (next : ℕ → ℕ → Prog Ended) (nx : Next next) (lost : ℕ → Prog Ended)
      (again : IsSweep mode → (r2 q2 : Past) (found : ℕ) → Before base r2 → Before r2 q2 → Legal s q2 → word_at s.geometry r2 (slot_at t p) ≡ found → Start0 q2 → SafeDrops mode s c q2 (lost found) End) where
    lr : Legal s r
    lr = legal_before s rq l

    tr : IsTable s.geometry r t
    tr = table_at r br lr

    held_end : (z : Past) → Legal s z → Before q z → (b : Body) (pr : Pair) → Holder s r key t p b pr → End z (record { table = t; how = held p word pr.value; left = suc left })
    held_end z lz bz b pr ho = record {
      start = start_before s bz lz (hash s key) t st0;
      so = record {
        at = r;
        from_then = Before-trans (passing_span InOrder in_order_span s key (own_of mode) from prev t since pass) (Before-trans bs br);
        till = Before-trans rq bz;
        reads = reads;
        body = b;
        pair = pr;
        holder = ho;
        value_is = refl;
        word_is = wd;
      };
      some = omega arith;
    }

    skip : (z : Past) → Legal s z → Before q z → Miss r → SafeDrops mode s c z (next word (suc left)) End
    skip z lz bz m = nx r z word (suc left) br (Before-trans rq bz) lz wd m (omega arith)

    module _ (b : Body) where
      on_mark : (m : Mark) → content word ≡ Full m b → place_in s.geometry r t p ≡ Full m b
      on_mark m e = ap content wd ∙ e

      candidate_of : (m : Mark) (pr : Pair) → Word s.geometry r m t p b pr → pr.key ≡ key → IsCandidate s r t p key
      candidate_of m pr w k = subst (IsCandidate s r t p) k (word_candidate s r lr r here t p m b pr tr plc w)

      other : (m : Mark) (pr : Pair) → content word ≡ Full m b → pair_at s.geometry r b ≡ Some pr → pr.key ≢ key → Miss r
      other m pr e pk n = miss_full s key (own_of mode) prev t p r m b (on_mark m e) (λ x px k bad. n (one pk px ∙ k))
        where
          one : {o : Option Pair} {x y : Pair} → o ≡ Some x → o ≡ Some y → x.key ≡ y.key
          one h k = cc

      mark_live : content word ≡ Full Live b → SafeDrops mode s c q (judge_mark s.geometry (aim_of s key) mode shown t p (suc left) word Live b (next word (suc left)) (next 0 (suc left)) lost) End
      mark_live e =
          let nm = standing_named s.geometry r (sound s r lr) t p Live b tr plc (on_mark Live e) in
          by_block (Dropping mode) s c End r b nm.pair nm nm.packs key bytes (λ x. ret (record { table = t; how = held p word x; left = suc left })) (next word (suc left)) q rq l
          (λ k z lz bz. let w : Word s.geometry r Live t p b nm.pair = record { stands = on_mark Live e; packs = nm.packs } in
          let seat = candidate_of Live nm.pair w k in held_end z lz bz b nm.pair (live t p b nm.pair w k seat.candidate seat.chain))
          (λ n z lz bz. skip z lz bz (other Live nm.pair e nm.packs n))

      copy_holds : content word ≡ Full Copied b → (pr : Pair) → pair_at s.geometry r b ≡ Some pr → pr.key ≡ key → Answers s prev p b → Holder s r key t p b pr
      copy_holds e pr pk k an = by prev pass an
        where
          by : (v : Option Searched) → Passing InOrder s key (own_of mode) from v t since → Answers s v p b → Holder s r key t p b pr
          by None ps2 w = absurd w
          by (Some x) ps2 w =
              let b1 = Before-trans bs br in
              let lsn = legal_before s b1 lr in
              let bh = passing_behind s key (own_of mode) from (Some x) t since lsn ps2 x refl w.0 w.1 in
              let ts = passing_table s key (own_of mode) from (Some x) t since lsn ps2 in
              let par = ap (λ (v : Birth). v.parent) (birth_before s b1 lr t ts) ∙ bh.parent in
              subst (λ v. Holder s r v t p b pr) k
              (copy_present s (Before-trans bh.earlier b1) lr x.table t p b pr bh.table plc w.3 tr par (on_mark Copied e) pk)

      mark_copied : content word ≡ Full Copied b → SafeDrops mode s c q (judge_mark s.geometry (aim_of s key) mode shown t p (suc left) word Copied b (next word (suc left)) (next 0 (suc left)) lost) End
      mark_copied e =
          let nm = standing_named s.geometry r (sound s r lr) t p Copied b tr plc (on_mark Copied e) in
          by_cond (Dropping mode) s c End q (answers shown p b) _ (next word (suc left))
          (λ a. by_block (Dropping mode) s c End r b nm.pair nm nm.packs key bytes (λ x. ret (record { table = t; how = held p word x; left = suc left })) (next word (suc left)) q rq l
          (λ k z lz bz. held_end z lz bz b nm.pair (copy_holds e nm.pair nm.packs k (answering s prev shown ps p b a)))
          (λ n z lz bz. skip z lz bz (other Copied nm.pair e nm.packs n)))
          (λ a. skip q l here (miss_full s key (own_of mode) prev t p r Copied b (on_mark Copied e) (λ x px k bad. not_answering s prev shown ps p b a bad)))

      mark_moved : content word ≡ Full Moved b → SafeDrops mode s c q (next word (suc left)) End
      mark_moved e = skip q l here (miss_full s key (own_of mode) prev t p r Moved b (on_mark Moved e) (λ x px k bad. bad))

      -- a drop: won, the slot is empty at the position then; lost, the word found is judged
      drop_safe : IsSweep mode → content word ≡ Full Pending b → (z : Past) → Legal s z → Before q z → SafeDrops mode s c z (ask (do_verb None (Swap (slot_at t p) word 0)) (λ found. cond (found == word) (next 0 (suc left)) (lost found))) End
      drop_safe sw e z lz bz = (slot_within s z lz t p (table_at z (Before-trans br (Before-trans rq bz)) lz) plc, λ y ly sy. by y ly (Before-trans bz (since_before sy)))
        where
          by : (y : Past) → Legal s y → Before q y → MayBy (Dropping mode) s c y (Swap (slot_at t p) word 0) (λ n found. SafeDrops mode s c n (cond (found == word) (next 0 (suc left)) (lost found)) End)
          by y ly by2 =
              let b1 = Before-trans br (Before-trans rq by2) in
              let ty = table_at y b1 ly in (
                (λ same.
                    let st : place_in s.geometry y t p ≡ Full Pending b = ap content same ∙ e in
                    let me = drop_meets s c y ly t p ty plc b st in
                    let zero_now = word_put s.geometry y (change_in s.geometry c y (slot_at t p) 0) (slot_at t p) refl in (
                      (me, (sw, (drop_is s c y ly t p ty plc b st, refl))),
                      by_cond (Dropping mode) s c End (change_in s.geometry c y (slot_at t p) 0 ∷ y) (word_at s.geometry y (slot_at t p) == word) (next 0 (suc left)) (lost (word_at s.geometry y (slot_at t p)))
                          (λ v. nx (change_in s.geometry c y (slot_at t p) 0 ∷ y) (change_in s.geometry c y (slot_at t p) 0 ∷ y) 0 (suc left) (later b1) here (ly, me) zero_now
                          (miss_none s key (own_of mode) prev t p (change_in s.geometry c y (slot_at t p) 0 ∷ y) (λ m d f. empty m d (sym (ap content zero_now ∙ content-0) ∙ f))) (omega arith))
                          (λ v. absurd (differ (word_at s.geometry y (slot_at t p)) word same v)),
                    )),
                (λ n. by_cond (Dropping mode) s c End y (word_at s.geometry y (slot_at t p) == word) (next 0 (suc left)) (lost (word_at s.geometry y (slot_at t p)))
                    (λ v. absurd (n (equal (word_at s.geometry y (slot_at t p)) word v)))
                    (λ v. again sw y y (word_at s.geometry y (slot_at t p)) b1 here ly refl (start_before s by2 ly (hash s key) t st0))),
              )
            where
              empty : (m : Mark) (d : Body) → Empty ≡ Full m d → ⊥
              empty m d h = cc

              differ : (x y : ℕ) → x ≡ y → (x == y) ≡ false → ⊥
              differ x y h k = grind (arith, nat_tests)

              equal : (x y : ℕ) → (x == y) ≡ true → x ≡ y
              equal x y h = grind (arith, nat_tests)

      pending_as : (md : Mode) → mode ≡ md → content word ≡ Full Pending b → SafeDrops mode s c q (judge_pending s.geometry (aim_of s key) mode md t p b word (next word (suc left)) (next 0 (suc left)) lost) End
      pending_as look m e = skip q l here (miss_full s key (own_of mode) prev t p r Pending b (on_mark Pending e) (λ x px k bad. none (ap own_of (sym m) ∙ bad.1)))
        where
          none : {a : ℕ} → None ≡ Some a → ⊥
          none h = cc
      pending_as walk m e = skip q l here (miss_full s key (own_of mode) prev t p r Pending b (on_mark Pending e) (λ x px k bad. none (ap own_of (sym m) ∙ bad.1)))
        where
          none : {a : ℕ} → None ≡ Some a → ⊥
          none h = cc
      pending_as (sweep u v) m e =
          let nm = standing_named s.geometry r (sound s r lr) t p Pending b tr plc (on_mark Pending e) in
          by_block (Dropping mode) s c End r b nm.pair nm nm.packs key bytes (λ x. ask (do_verb None (Swap (slot_at t p) word 0)) (λ found. cond (found == word) (next 0 (suc left)) (lost found))) (next word (suc left)) q rq l
          (λ k z lz bz. drop_safe (subst IsSweep (sym m) tt) e z lz bz)
          (λ n z lz bz. skip z lz bz (other Pending nm.pair e nm.packs n))

      mark_safe : (m : Mark) → content word ≡ Full m b → SafeDrops mode s c q (judge_mark s.geometry (aim_of s key) mode shown t p (suc left) word m b (next word (suc left)) (next 0 (suc left)) lost) End
      mark_safe Live e = mark_live e
      mark_safe Copied e = mark_copied e
      mark_safe Moved e = mark_moved e
      mark_safe Pending e = pending_as mode refl e

      printed : (m : Mark) → content word ≡ Full m b → (b.print == fingerprint_of (hash s key)) ≡ false → Miss r
      printed m e f = miss_full s key (own_of mode) prev t p r m b (on_mark m e) (λ x px k bad.
          differ b.print (print_of s key) (prints s r lr r here t p m b x tr plc (record { stands = on_mark m e; packs = px }) ∙ ap (print_of s) k) f)
        where
          differ : (x y : ℕ) → x ≡ y → (x == y) ≡ false → ⊥
          differ x y h k = grind (arith, nat_tests)

    -- a word with another fingerprint, or of a block of more words than one has
    apart : (b : Body) (m : Mark) → content word ≡ Full m b → ((b.print == fingerprint_of (hash s key)) && nat_le b.length 137) ≡ false → Miss r
    apart b m e f = by (b.print == fingerprint_of (hash s key)) refl f
      where
        by : (v : Bool) → (b.print == fingerprint_of (hash s key)) ≡ v → (v && nat_le b.length 137) ≡ false → Miss r
        by false q f = printed b m e q
        by true q f = miss_full s key (own_of mode) prev t p r m b (on_mark b m e) (λ x px k bad. long (block_length s.geometry r b x px) f)
          where
            long : b.length ≤ 137 → nat_le b.length 137 ≡ false → ⊥
            long h k = grind (arith, nat_tests)

    content_safe : (v : Content) → content word ≡ v → SafeDrops mode s c q (judge_content s.geometry (aim_of s key) mode shown t p (suc left) word v (next word (suc left)) (next 0 (suc left)) lost) End
    content_safe Empty e = skip q l here (miss_none s key (own_of mode) prev t p r (λ m b f. empty m b (sym (ap content wd ∙ e) ∙ f)))
      where
        empty : (m : Mark) (d : Body) → Empty ≡ Full m d → ⊥
        empty m d h = cc
    content_safe NoSlot e = skip q l here (miss_none s key (own_of mode) prev t p r (λ m b f. empty m b (sym (ap content wd ∙ e) ∙ f)))
      where
        empty : (m : Mark) (d : Body) → NoSlot ≡ Full m d → ⊥
        empty m d h = cc
    content_safe (Full m b) e = by_cond (Dropping mode) s c End q ((b.print == fingerprint_of (hash s key)) && nat_le b.length 137) _ (next word (suc left)) (λ v. mark_safe b m e) (λ v. skip q l here (apart b m e v))

  -- a word judged, and those that lost drops found
  pub judge_safe : (left word : ℕ) (r q : Past) → Before base r → Before r q → Legal s q → word_at s.geometry r (slot_at t p) ≡ word → Start0 q → (1 ≤ left) ⊎ IsSweep mode → (next : ℕ → ℕ → Prog Ended) → Next next → SafeDrops mode s c q (judge s.geometry (aim_of s key) mode shown t p left word next) End
  judge_safe zero word r q br rq l wd st0 some next nx = record { start = st0; so = ⊎_elim (λ (h : 1 ≤ 0). absurd (omega arith)) (λ (h : IsSweep mode). h) some; some = refl }
  judge_safe (suc left) word r q br rq l wd st0 some next nx =
      content_safe left word r q br rq l wd st0 next nx (λ found. judge s.geometry (aim_of s key) mode shown t p left found next)
      (λ sw r2 q2 found b2 rq2 l2 wd2 st2. judge_safe left found r2 q2 b2 rq2 l2 wd2 st2 (inr sw) next nx) (content word) refl
