-- A word is judged in the same way by the text and by the pass over lists.
use Rattle.std.specs.Prelude.{◌≡◌, ℕ, zero, suc, ◌+◌, ◌<◌, ◌≤◌, Bool, true, false, cond, ◌==◌, List, [], ◌∷◌, ◌++◌, length, slice_set, Option, Some, None, refl}
use Rattle.std.proofs.Common.{sym, ◌∙◌, ap, subst, arith}
use Rattle.slot_word.specs.declared.slots.Mark.{Mark}
use Rattle.slot_word.specs.declared.slots.Mark.TheVariants.{Live, Pending, Copied, Moved}
use Rattle.slot_word.specs.declared.slots.Slot.{Slot}
use Rattle.slot_word.specs.Slots.{slot_of}
use Rattle.std.proofs.lemmas.List.{length-set}
use Rattle.node_words.specs.declared.geometry.Geometry.{Geometry}
use Rattle.kv_block.specs.Reading.{has_key, block_value}
use Rattle.node_words.specs.Addresses.{slot_at}
use Rattle.verb_log.specs.declared.entry.Verb.TheVariants.{Swap}
use Rattle.verb_log.specs.Decoded.{Empty, Full, content, content_of}
use Rattle.verbs.specs.Programs.{do_verb, Prog, ret, ask}
use Rattle.pass_text.specs.Words.{level_if_gone, is_gone}
use Rattle.pass_laws.proofs.ListPass.{Aim, Mode, look, sweep, walk, Shown, Seen, held, Ended, if_block, read_block, answers, judge_pending, judge_mark, judge_content, judge}
use Rattle.pass_text.specs.declared.job.Job.{Job}
use Rattle.pass_text.specs.declared.job.PassMode.{PassMode}
use Rattle.pass_text.specs.declared.job.PassMode.TheVariants.{Look, Sweep, Walk}
use Rattle.pass_text.specs.declared.passed.Passed.{Passed}
use Rattle.pass_text.specs.declared.passed.PassEnd.TheVariants.{Spent}
use Rattle.pass_text.specs.declared.job.Opened.{Opened}
use Rattle.pass_text.specs.Pass as m
use Rattle.pass_text.specs.Words as w
use Rattle.pass_laws.proofs.Sim.{Sim, SameMode, LostSo, aim_of}
use Rattle.pass_laws.proofs.SameWords.{body_of, free_held, free_spent, slot_fits, sweep_look, words_sim}
use Rattle.pass_laws.proofs.SameSeen.{cands, place, near, noted, next_moved, next_free, prior_answers, LeftSo, SpareSo, left_some, left_lost, Rel, R, opened_as, Goes, rel_next}

module _ (j : Job) (o : Opened) where
  module _ (md : Mode) (left0 : ℕ) (same : SameMode j.mode md left0) where
    abbrev g : Geometry
    g = j.geometry

    abbrev aim : Aim
    aim = aim_of j

    -- one candidate
    module _ (before : Option Seen) (t born : ℕ) (seen : List Shown) (i : ℕ) (low : i < length (cands j o)) (next : m.Seen → Prog Passed) (then : ℕ → ℕ → Prog Ended)
        (go : (r : m.Seen) (word left : ℕ) → Rel j o r before t born (seen ++ record { place = (place j o) i; word = word } ∷ []) (i + 1) left → Sim (R j o) (next r) (then word left)) where
      module _ (s : m.Seen) (left : ℕ) (h : Rel j o s before t born seen i (suc left)) (word : ℕ) (again : m.Seen → ℕ → Prog Passed) (lost : ℕ → Prog Ended) (go_again : (own n : ℕ) → j.mode ≡ Sweep own n → (found : ℕ) → Sim (R j o) (again (m.after_lost s) found) (lost found)) where
        as_it_is : (v : ℕ) → (noted j o) (content v) ≡ false → (j.mode ≡ Look → (v == 0) ≡ false) → Goes j o s s i v
        unfolding next_moved next_free
        as_it_is v e z = record { table = refl; is_born = refl; opened = refl; parent = refl; prior = refl; lost = refl; moved = ap (λ x. cond x (slice_set s.moved i v) s.moved) (sym e); free = λ q. ap (λ x. cond x (slice_set s.free i true) s.free) (sym (z q)); free_size = refl }

        skip : (word == 0) ≡ false → (noted j o) (content word) ≡ false → Sim (R j o) (next s) (then word (suc left))
        skip z e = go s word (suc left) ((rel_next j o) s before t born seen i (suc left) h low s word (as_it_is word e (λ q. z)))

        zero_content : content 0 ≡ Empty
        unfolding content
        zero_content = refl

        dropped : (own n : ℕ) → j.mode ≡ Sweep own n → Sim (R j o) (next s) (then 0 (suc left))
        dropped own n e = go s 0 (suc left) ((rel_next j o) s before t born seen i (suc left) h low s 0 (as_it_is 0 (ap (noted j o) zero_content) (λ q. absurd (sweep_look (sym e ∙ q)))))

        held_alike : (value : List ℕ) → R j o (m.passed j s (m.held (w.candidate_at j s.table i) word value)) (record { table = t; how = held ((place j o) i) word value; left = suc left })
        unfolding w.candidate_at
        held_alike value = record { table = h.table; opened = (opened_as j o) s h.opened; places = refl; end = refl; lost = (left_lost j o) j.mode s.lost (suc left) h.left_so; free = free_held j.mode s.free ((place j o) i) word value }

        -- a live word, or a copy that answers: its block is read
        held_sim : (mk : Mark) (b : Slot) → ((value : List ℕ) → m.key_found j i s word mk value next again ≡ ret (m.passed j s (m.held (w.candidate_at j s.table i) word value))) → (word == 0) ≡ false → (noted j o) (content word) ≡ false
            → Sim (R j o) (m.read_words b.at b.len b.at [] (λ ws. m.after_block j i s word mk ws next again)) (read_block j.key (body_of b) (λ value. ret (record { table = t; how = held ((place j o) i) word value; left = suc left })) (then word (suc left)))
        held_sim mk b found nz nt = words_sim (R j o) b.at b.len b.at [] (λ ws. m.after_block j i s word mk ws next again) (if_block j.key (λ value. ret (record { table = t; how = held ((place j o) i) word value; left = suc left })) (then word (suc left))) (λ ws. test ws (has_key ws j.key))
          where
            test : (ws : List ℕ) (v : Bool) → Sim (R j o) (cond v (m.key_found j i s word mk (block_value ws) next again) (next s)) (cond v (ret (record { table = t; how = held ((place j o) i) word (block_value ws); left = suc left })) (then word (suc left)))
            test ws true = subst (λ x. Sim (R j o) x (ret (record { table = t; how = held ((place j o) i) word (block_value ws); left = suc left }))) (sym (found (block_value ws))) (held_alike (block_value ws))
            test ws false = skip nz nt

        -- a pending word, in a sweep: with the key it is dropped
        drop_sim : (own n : ℕ) → j.mode ≡ Sweep own n → (word == 0) ≡ false → (noted j o) (content word) ≡ false → (b : Slot)
            → Sim (R j o) (m.read_words b.at b.len b.at [] (λ ws. m.after_block j i s word Pending ws next again)) (read_block j.key (body_of b) (λ q. ask (do_verb None (Swap (slot_at t ((place j o) i)) word 0)) (λ found. cond (found == word) (then 0 (suc left)) (lost found))) (then word (suc left)))
        unfolding w.candidate_at
        drop_sim own n e nz nt b = words_sim (R j o) b.at b.len b.at [] (λ ws. m.after_block j i s word Pending ws next again) (if_block j.key hit (then word (suc left))) (λ ws. test ws (has_key ws j.key))
          where
            hit : List ℕ → Prog Ended
            hit q = ask (do_verb None (Swap (slot_at t ((place j o) i)) word 0)) (λ found. cond (found == word) (then 0 (suc left)) (lost found))

            same_at : w.candidate_at j s.table i ≡ slot_at t ((place j o) i)
            same_at = ap (λ v. slot_at v ((place j o) i)) h.table

            won : (found : ℕ) (v : Bool) → Sim (R j o) (cond v (next s) (again (m.after_lost s) found)) (cond v (then 0 (suc left)) (lost found))
            won found true = dropped own n e
            won found false = go_again own n e found

            test : (ws : List ℕ) (v : Bool) → Sim (R j o) (cond v (m.drop_word j i s word next again) (next s)) (cond v (hit (block_value ws)) (then word (suc left)))
            test ws true = (ap (λ v. do_verb None (Swap v word 0)) same_at, λ found. won found (found == word))
            test ws false = skip nz nt

        pending_sim : (pm : PassMode) → j.mode ≡ pm → (md2 : Mode) → SameMode pm md2 left0 → (word == 0) ≡ false → (noted j o) (content word) ≡ false → (b : Slot)
            → Sim (R j o) (cond (w.is_sweep pm) (m.read_words b.at b.len b.at [] (λ ws. m.after_block j i s word Pending ws next again)) (next s)) (judge_pending g aim md md2 t ((place j o) i) (body_of b) word (then word (suc left)) (then 0 (suc left)) lost)
        pending_sim Look e look sm nz nt b = skip nz nt
        pending_sim Walk e walk sm nz nt b = skip nz nt
        pending_sim (Sweep own n) e (sweep u p) sm nz nt b = drop_sim own n e nz nt b
        pending_sim Look e (sweep u p) sm nz nt b = absurd sm
        pending_sim Look e walk sm nz nt b = absurd sm
        pending_sim Walk e (sweep u p) sm nz nt b = absurd sm
        pending_sim Walk e look sm nz nt b = absurd sm
        pending_sim (Sweep own n) e look sm nz nt b = absurd sm
        pending_sim (Sweep own n) e walk sm nz nt b = absurd sm

        mark_sim : (b : Slot) → (word == 0) ≡ false → slot_of word ≡ Some b → (near j o) b.fp b.len ≡ true → (mk : Mark) → b.mark ≡ mk → content word ≡ Full mk (body_of b)
            → Sim (R j o) (cond (m.wants j s i b mk) (m.read_words b.at b.len b.at [] (λ ws. m.after_block j i s word mk ws next again)) (cond (m.is_moved mk) (next (m.noted s i word)) (next s)))
            (judge_mark g aim md before t ((place j o) i) (suc left) word mk (body_of b) (then word (suc left)) (then 0 (suc left)) lost)
        unfolding next_moved next_free
        mark_sim b nz e nb Live q c = held_sim Live b (λ p. refl) nz (ap (noted j o) c)
        mark_sim b nz e nb Pending q c = pending_sim j.mode refl md same nz (ap (noted j o) c) b
        mark_sim b nz e nb Copied q c = test (m.answers s i b) (answers before ((place j o) i) (body_of b)) ((prior_answers j o) before s.prior h.prior i low b (slot_fits word b e) nb)
          where
            test : (v x : Bool) → v ≡ x → Sim (R j o) (cond v (m.read_words b.at b.len b.at [] (λ ws. m.after_block j i s word Copied ws next again)) (next s)) (cond x (read_block j.key (body_of b) (λ q. ret (record { table = t; how = held ((place j o) i) word q; left = suc left })) (then word (suc left))) (then word (suc left)))
            test true true f = held_sim Copied b (λ p. refl) nz (ap (noted j o) c)
            test false false f = skip nz (ap (noted j o) c)
            test true false f = absurd (cc)
            test false true f = absurd (cc)
        mark_sim b nz e nb Moved q c = go (m.noted s i word) word (suc left) ((rel_next j o) s before t born seen i (suc left) h low (m.noted s i word) word moves)
          where
            moves : Goes j o s (m.noted s i word) i word
            moves = record { table = refl; is_born = refl; opened = refl; parent = refl; prior = refl; lost = refl; moved = ap (λ x. cond x (slice_set s.moved i word) s.moved) (sym (ap (noted j o) c ∙ nb)); free = λ q. ap (λ x. cond x (slice_set s.free i true) s.free) (sym nz); free_size = refl }

        slot_sim : (v : Option Slot) → (word == 0) ≡ false → slot_of word ≡ v → content word ≡ content_of v → Sim (R j o) (m.judge_slot j i s word v next again) (judge_content g aim md before t ((place j o) i) (suc left) word (content_of v) (then word (suc left)) (then 0 (suc left)) lost)
        unfolding w.concerns
        slot_sim None nz e c = skip nz (ap (noted j o) c)
        slot_sim (Some b) nz e c = test ((near j o) b.fp b.len) refl
          where
            far : (mk : Mark) → b.mark ≡ mk → (near j o) b.fp b.len ≡ false → (noted j o) (Full mk (body_of b)) ≡ false
            far Live q f = refl
            far Pending q f = refl
            far Copied q f = refl
            far Moved q f = f

            test : (v : Bool) → (near j o) b.fp b.len ≡ v
                → Sim (R j o) (cond v (cond (m.wants j s i b b.mark) (m.read_words b.at b.len b.at [] (λ ws. m.after_block j i s word b.mark ws next again)) (cond (m.is_moved b.mark) (next (m.noted s i word)) (next s))) (next s))
                (cond v (judge_mark g aim md before t ((place j o) i) (suc left) word b.mark (body_of b) (then word (suc left)) (then 0 (suc left)) lost) (then word (suc left)))
            test true n = mark_sim b nz e n b.mark refl c
            test false n = skip nz (ap (noted j o) c ∙ far b.mark refl n)

        once_sim : Sim (R j o) (m.judge_once j i s word next again) (judge_content g aim md before t ((place j o) i) (suc left) word (content word) (then word (suc left)) (then 0 (suc left)) lost)
        unfolding content next_moved next_free
        once_sim = test (word == 0) refl
          where
            free_goes : (word == 0) ≡ true → content word ≡ Empty → Goes j o s (m.freed s i) i word
            free_goes z c = record { table = refl; is_born = refl; opened = refl; parent = refl; prior = refl; lost = refl; moved = ap (λ x. cond x (slice_set s.moved i word) s.moved) (sym (ap (noted j o) c)); free = λ q. ap (λ x. cond x (slice_set s.free i true) s.free) (sym z); free_size = length-set s.free i true }

            test : (v : Bool) → (word == 0) ≡ v → Sim (R j o) (cond v (next (m.freed s i)) (m.judge_slot j i s word (slot_of word) next again)) (judge_content g aim md before t ((place j o) i) (suc left) word (cond v Empty (content_of (slot_of word))) (then word (suc left)) (then 0 (suc left)) lost)
            test true e = go (m.freed s i) word (suc left) ((rel_next j o) s before t born seen i (suc left) h low (m.freed s i) word (free_goes e (ap (λ v. cond v Empty (content_of (slot_of word))) e)))
            test false e = slot_sim (slot_of word) e refl (ap (λ v. cond v Empty (content_of (slot_of word))) e)

      lost_rel : (s : m.Seen) (l : ℕ) → Rel j o s before t born seen i (suc l) → (own n : ℕ) → j.mode ≡ Sweep own n → 1 ≤ l → Rel j o (m.after_lost s) before t born seen i l
      lost_rel s l h own n e some = record {
        table = h.table;
        is_born = h.is_born;
        opened = h.opened;
        parent = h.parent;
        marks = h.marks;
        size = h.size;
        fresh = h.fresh;
        prior = h.prior;
        left_so = subst (λ v. (LeftSo j o) v (s.lost + 1) l) (sym e) (let x = subst (λ v. (LeftSo j o) v s.lost (suc l)) e h.left_so in (let y = x.0 in omega arith, some));
        free_so = h.free_so;
        free_fresh = h.free_fresh;
        free_size = h.free_size;
      }

      spent_alike : (s : m.Seen) (l : ℕ) → Rel j o s before t born seen i (suc l) → (own n : ℕ) → j.mode ≡ Sweep own n → l ≡ 0 → (found : ℕ) → Sim (R j o) (ret (m.passed j (m.after_lost s) Spent)) (judge g aim md before t ((place j o) i) l found then)
      spent_alike s l h own n e z found = subst (λ v. Sim (R j o) (ret (m.passed j (m.after_lost s) Spent)) (judge g aim md before t ((place j o) i) v found then)) (sym z)
          (record { table = h.table; opened = (opened_as j o) s h.opened; places = refl; end = refl; lost = subst (λ v. LostSo v (s.lost + 1) 0) (sym e) (let x = subst (λ v. (LeftSo j o) v s.lost (suc l)) e h.left_so in let y = x.0 in omega arith); free = free_spent j.mode s.free })

      pub judge_sim : (n : ℕ) (s : m.Seen) (left : ℕ) → Rel j o s before t born seen i left → (word : ℕ) → (SpareSo j o) j.mode n left → Sim (R j o) (m.judge j n i s word next) (judge g aim md before t ((place j o) i) left word then)
      judge_sim n s zero h word sp = let x = (left_some j o) j.mode s.lost 0 h.left_so in absurd (omega arith)
      judge_sim zero s (suc l) h word sp = once_sim s l h word (λ r found. ret (m.passed j r Spent)) (λ found. judge g aim md before t ((place j o) i) l found then)
          (λ own k e found. spent_alike s l h own k e (let x = subst (λ v. (SpareSo j o) v 0 (suc l)) e sp in omega arith) found)
      judge_sim (suc n) s (suc l) h word sp = once_sim s l h word (λ r found. m.judge j n i r found next) (λ found. judge g aim md before t ((place j o) i) l found then)
          (λ own k e found. let x = subst (λ v. (SpareSo j o) v (suc n) (suc l)) e sp in
          judge_sim n (m.after_lost s) l (lost_rel s l h own k e (omega arith)) found (subst (λ v. (SpareSo j o) v n l) (sym e) (omega arith)))
