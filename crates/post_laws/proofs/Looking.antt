-- The words of a table's candidates are judged once all are read, each at the position of its own reading.
use Rattle.std.specs.Prelude.{◌≡◌, ◌≢◌, ℕ, zero, suc, ◌+◌, ◌<◌, ◌≤◌, Bool, true, false, cond, ◌==◌, ◌&&◌, nat_le, List, [], ◌∷◌, ◌++◌, length, map, drop, slice_index, slice_set, Option, Some, None, refl}
use Rattle.std.proofs.Common.{sym, ◌∙◌, ap, subst, inl, inr, arith, append_assoc, append-nil}
use Rattle.std.proofs.lemmas.Bool.Decides.{nat_tests}
use Rattle.std.proofs.lemmas.List.{length-set}
use Rattle.slot_word.specs.declared.slots.Mark.{Mark}
use Rattle.slot_word.specs.declared.slots.Mark.TheVariants.{Live, Pending, Copied, Moved}
use Rattle.slot_word.specs.declared.slots.Slot.{Slot}
use Rattle.slot_word.specs.declared.heads.Head.{Head}
use Rattle.slot_word.specs.declared.births.Birth.{Birth}
use Rattle.slot_word.specs.Slots.{slot_of}
use Rattle.kv_block.specs.Bytes.{AreBytes}
use Rattle.kv_block.specs.Packing.{Pair}
use Rattle.bucket_group.specs.Buckets.{fingerprint_of}
use Rattle.node_words.specs.Addresses.{slot_at}
use Rattle.verb_log.specs.Decoded.{Body, Content, Empty, Full, NoSlot, content, content_of, header_of}
use Rattle.verb_log.specs.Tables.{Past, Before, here, word_at, pair_at}
use Rattle.verb_log.proofs.Positions.{Before-trans}
use Rattle.race_laws.specs.Setting.{Setting, hash, print_of}
use Rattle.race_laws.specs.Standing.{IsTable, header_in, place_in, Word, IsIn}
use Rattle.race_laws.specs.Chains.{IsCandidate, Holder, live}
use Rattle.race_laws.specs.Looks.{Reading, Searched, Between, Answers, AllMiss, Passing}
use Rattle.race_laws.specs.Rows.{IsPlace}
use Rattle.race_laws.specs.Legal.{Legal}
use Rattle.race_laws.proofs.Positions.{legal_before}
use Rattle.race_laws.proofs.SoundStep.{sound}
use Rattle.race_laws.proofs.Covers.{table_before}
use Rattle.race_laws.proofs.Slots.{standing_named}
use Rattle.race_laws.proofs.Frames.{birth_before}
use Rattle.race_laws.proofs.Passes.{between_span, passing_span}
use Rattle.race_laws.proofs.Candidates.{word_candidate}
use Rattle.race_laws.proofs.Presence.{candidate_place, copy_present}
use Rattle.log_facts.specs.Start.{Start}
use Rattle.log_facts.proofs.Within.{block_length}
use Rattle.log_facts.proofs.Prints.{prints}
use Rattle.log_facts.proofs.Starts.{start_before}
use Rattle.pass_text.specs.declared.job.Job.{Job}
use Rattle.pass_text.specs.declared.job.Opened.{Opened}
use Rattle.pass_text.specs.declared.job.PassMode.TheVariants.{Look}
use Rattle.pass_text.specs.declared.passed.PassEnd.{PassEnd}
use Rattle.pass_text.specs.declared.passed.Passed.{Passed}
use Rattle.pass_text.specs.Words as w
use Rattle.pass_text.specs.Pass as m
use Rattle.pass_laws.specs.Drops.{Drops}
use Rattle.pass_laws.specs.HasPassed.{HeldAt}
use Rattle.pass_laws.proofs.ListPass.{Shown, Seen, answers}
use Rattle.pass_laws.proofs.ListEnd.{Saw}
use Rattle.pass_laws.proofs.Seen.{PrevSaw, answering, not_answering, saw_push, all_miss_push}
use Rattle.pass_laws.proofs.Judging.{Missed, miss_full, miss_none}
use Rattle.pass_laws.proofs.SameWords.{body_of, slot_fits, drop_at}
use Rattle.pass_laws.proofs.SameSeen.{cands, place, near, noted, next_moved, next_free, prior_answers, Rel, opened_as, Goes, rel_next}
use Rattle.pass_laws.proofs.Whole.{opened_told}
use Rattle.post_text.specs.Posts.{Posts, ends, post, range}
use Rattle.post_text.specs.Look.{takes, after_block, judge_slot, judge, judge_all}
use Rattle.post_laws.specs.SafePosts.{PostsBy}
use Rattle.post_laws.specs.HasLooked.{LooksSo, HasLooked}
use Rattle.post_laws.proofs.Spread.{spread_table, spread_behind}
use Rattle.post_laws.proofs.PostedBlock.{posted_block_safe, same_first}

-- the job of a look for a key
abbrev pub look_of : Setting → List ℕ → Job
look_of s key = record { geometry = s.geometry; key = key; hash = hash s key; mode = Look }

-- words that readings showed
abbrev pub SawWords : Setting → ℕ → List Reading → List ℕ → Type 0
SawWords s t [] [] = Unit {0}
SawWords s t [] (x ∷ xs) = ⊥
SawWords s t (r ∷ rs) [] = ⊥
SawWords s t (r ∷ rs) (x ∷ xs) = (word_at s.geometry r.at (slot_at t r.place) ≡ x) × SawWords s t rs xs

pub index_in : (xs : List ℕ) (i : ℕ) → i < length xs → IsIn (slice_index xs i) xs
index_in [] i h = absurd (omega arith)
index_in (x ∷ xs) zero h = inl refl
index_in (x ∷ xs) (suc i) h = inr (index_in xs i (omega arith))

-- a look that has opened at a position with this header
module _ (s : Setting) (c : ℕ) (key : List ℕ) (bytes : AreBytes key) (o : Opened) (from z : Past) (bf : Before from z) (head_at : header_in s.geometry z o.table ≡ header_of (Some o.head)) where
  abbrev pub j : Job
  j = look_of s key

  abbrev pub End : Past → Passed → Type 0
  End y p = HasLooked s key from y p

  abbrev pub IsSafe : Past → Posts Passed → Type 0
  IsSafe q p = PostsBy (Drops Look) s c q p End

  -- what it tells in the end
  pub finish : (y : Past) (t born i : ℕ) (before : Option Seen) (shown : List Shown) (v : m.Seen) → Rel j o v before t born shown i 1 → Before z y → Start s.geometry y (hash s key) t → (e : PassEnd) → LooksSo s key z y (m.passed j v e) e → End y (m.passed j v e)
  finish y t born i before shown v rel zy st e so = record {
    start = subst (Start s.geometry y (hash s key)) (sym rel.table) st;
    opened = z;
    from_then = bf;
    till = zy;
    opened_head = λ h x. let u = opened_told o v.table h (sym (opened_as j o v rel.opened) ∙ x) in ap (header_in s.geometry z) (sym u.0) ∙ head_at ∙ ap (λ (k : Head). header_of (Some k)) u.1;
    so = so;
  }

  -- a table that the look has come to
  module _ (prev : Option Searched) (before : Option Seen) (ps : PrevSaw s.geometry prev before) (t born : ℕ) (since : Past) (pass : Passing Between s key None z prev t since) where
    -- candidate i, whose word was read at a position r
    module _ (i : ℕ) (low : i < length (cands j o)) (word : ℕ) (r q : Past) (br : Before since r) (rq : Before r q) (l : Legal s q) (wd : word_at s.geometry r (slot_at t (place j o i)) ≡ word) (st0 : Start s.geometry q (hash s key) t)
        (shown : List Shown) (v : m.Seen) (rel : Rel j o v before t born shown i 1) (next : m.Seen → Posts Passed)
        (go : (y : Past) → Before q y → Legal s y → (x : m.Seen) → Rel j o x before t born (shown ++ record { place = place j o i; word = word } ∷ []) (i + 1) 1 → Missed s key None prev t (place j o i) r → IsSafe y (next x)) where
      abbrev p : ℕ
      p = place j o i

      abbrev Miss : Type 0
      Miss = Missed s key None prev t p r

      plc : IsPlace s.geometry p
      plc = candidate_place s key p (index_in (cands j o) i low)

      lr : Legal s r
      lr = legal_before s rq l

      tr : IsTable s.geometry r t
      tr = table_before s.geometry br t t (spread_table s key None z prev t since (legal_before s br lr) pass)

      zr : Before z r
      zr = Before-trans (passing_span Between between_span s key None z prev t since pass) br

      -- what is remembered where the word is passed over
      as_it_is : (word == 0) ≡ false → noted j o (content word) ≡ false → Goes j o v v i word
      unfolding next_moved next_free
      as_it_is nz e = record { table = refl; is_born = refl; opened = refl; parent = refl; prior = refl; lost = refl; moved = ap (λ x. cond x (slice_set v.moved i word) v.moved) (sym e); free = λ q. ap (λ x. cond x (slice_set v.free i true) v.free) (sym nz); free_size = refl }

      skip : (y : Past) → Before q y → Legal s y → (word == 0) ≡ false → noted j o (content word) ≡ false → Miss → IsSafe y (next v)
      skip y qy ly nz e miss = go y qy ly v (rel_next j o v before t born shown i 1 rel low v word (as_it_is nz e)) miss

      held_end : (y : Past) → Legal s y → Before q y → (b : Body) (pr : Pair) → Holder s r key t p b pr → End y (m.passed j v (m.held (w.candidate_at j v.table i) word pr.value))
      unfolding w.candidate_at
      held_end y ly qy b pr ho = finish y t born i before shown v rel (Before-trans zr (Before-trans rq qy)) (start_before s qy ly (hash s key) t st0) (m.held (w.candidate_at j v.table i) word pr.value)
          (subst (λ u. HeldAt s key z y u (record { at = slot_at v.table p; word = word; value = pr.value })) (sym rel.table) (record {
            at = r;
            from_then = zr;
            till = Before-trans rq qy;
            place = p;
            body = b;
            pair = pr;
            holder = ho;
            slot = ap (λ u. slot_at u p) rel.table;
            word = ap (λ u. word_at s.geometry r (slot_at u p)) rel.table ∙ wd;
            value = refl;
          }))

      module _ (b : Body) where
        on_mark : (k : Mark) → content word ≡ Full k b → place_in s.geometry r t p ≡ Full k b
        on_mark k e = ap content wd ∙ e

        candidate_of : (k : Mark) (pr : Pair) → Word s.geometry r k t p b pr → pr.key ≡ key → IsCandidate s r t p key
        candidate_of k pr x e = subst (IsCandidate s r t p) e (word_candidate s r lr r here t p k b pr tr plc x)

        other : (k : Mark) (pr : Pair) → content word ≡ Full k b → pair_at s.geometry r b ≡ Some pr → pr.key ≢ key → Miss
        other k pr e pk n = miss_full s key None prev t p r k b (on_mark k e) (λ x px same bad. n (one pk px ∙ same))
          where
            one : {u : Option Pair} {x y : Pair} → u ≡ Some x → u ≡ Some y → x.key ≡ y.key
            one h k = cc

        copy_holds : content word ≡ Full Copied b → (pr : Pair) → pair_at s.geometry r b ≡ Some pr → pr.key ≡ key → Answers s prev p b → Holder s r key t p b pr
        copy_holds e pr pk k an = by prev pass an
          where
            by : (u : Option Searched) → Passing Between s key None z u t since → Answers s u p b → Holder s r key t p b pr
            by None pass2 x = absurd x
            by (Some u) pass2 x =
                let lsn = legal_before s br lr in
                let bh = spread_behind s key None z (Some u) t since lsn pass2 u refl x.0 x.1 in
                let ts = spread_table s key None z (Some u) t since lsn pass2 in
                let par = ap (λ (n : Birth). n.parent) (birth_before s br lr t ts) ∙ bh.parent in
                subst (λ n. Holder s r n t p b pr) k
                (copy_present s (Before-trans bh.earlier br) lr u.table t p b pr bh.table plc x.3 tr par (on_mark Copied e) pk)

        printed : (k : Mark) → content word ≡ Full k b → (b.print == fingerprint_of (hash s key)) ≡ false → Miss
        printed k e f = miss_full s key None prev t p r k b (on_mark k e) (λ x px same bad.
            differ b.print (print_of s key) (prints s r lr r here t p k b x tr plc (record { stands = on_mark k e; packs = px }) ∙ ap (print_of s) same) f)
          where
            differ : (x y : ℕ) → x ≡ y → (x == y) ≡ false → ⊥
            differ x y h k = grind (arith, nat_tests)

        -- a word with another fingerprint, or of a block of more words than one has
        apart : (k : Mark) → content word ≡ Full k b → near j o b.print b.length ≡ false → Miss
        apart k e f = by (b.print == fingerprint_of (hash s key)) refl f
          where
            by : (x : Bool) → (b.print == fingerprint_of (hash s key)) ≡ x → (x && nat_le b.length 137) ≡ false → Miss
            by false g f = printed k e g
            by true g f = miss_full s key None prev t p r k b (on_mark k e) (λ x px same bad. long (block_length s.geometry r b x px) f)
              where
                long : b.length ≤ 137 → nat_le b.length 137 ≡ false → ⊥
                long h k = grind (arith, nat_tests)

      none_full : (x : Content) → content word ≡ x → ((k : Mark) (d : Body) → x ≡ Full k d → ⊥) → Miss
      none_full x e f = miss_none s key None prev t p r (λ k d h. f k d (sym (ap content wd ∙ e) ∙ h))

      -- a word that is taken
      taken_safe : (b : Slot) → (word == 0) ≡ false → noted j o (content word) ≡ false → (k : Mark) → content word ≡ Full k (body_of b) → ((pr : Pair) → pair_at s.geometry r (body_of b) ≡ Some pr → pr.key ≡ key → Holder s r key t p (body_of b) pr)
          → IsSafe q (post (Some b.at) (range b.at b.len) (λ ws. after_block j i v word ws next))
      taken_safe b nz e k shows holds =
          let nm = standing_named s.geometry r (sound s r lr) t p k (body_of b) tr plc (on_mark (body_of b) k shows) in
          posted_block_safe (Drops Look) s c End r (body_of b) nm.pair nm nm.packs key bytes (λ value. ends (m.passed j v (m.held (w.candidate_at j v.table i) word value))) (next v) q rq l
          (λ same y ly qy. held_end y ly qy (body_of b) nm.pair (holds nm.pair nm.packs same))
          (λ n y ly qy. skip y qy ly nz e (other (body_of b) k nm.pair shows nm.packs n))

      mark_safe : (b : Slot) → (word == 0) ≡ false → slot_of word ≡ Some b → near j o b.fp b.len ≡ true → (k : Mark) → content word ≡ Full k (body_of b)
          → IsSafe q (cond (takes v i b k) (post (Some b.at) (range b.at b.len) (λ ws. after_block j i v word ws next)) (cond (m.is_moved k) (next (m.noted v i word)) (next v)))
      unfolding next_moved next_free
      mark_safe b nz e nb Live c = taken_safe b nz (ap (noted j o) c) Live c (λ pr pk same.
          let x : Word s.geometry r Live t p (body_of b) pr = record { stands = on_mark (body_of b) Live c; packs = pk } in
          let seat = candidate_of (body_of b) Live pr x same in live t p (body_of b) pr x same seat.candidate seat.chain)
      mark_safe b nz e nb Copied c = test (m.answers v i b) (sym (prior_answers j o before v.prior rel.prior i low b (slot_fits word b e) nb))
        where
          test : (x : Bool) → answers before p (body_of b) ≡ x → IsSafe q (cond x (post (Some b.at) (range b.at b.len) (λ ws. after_block j i v word ws next)) (next v))
          test true a = taken_safe b nz (ap (noted j o) c) Copied c (λ pr pk same. copy_holds (body_of b) c pr pk same (answering s prev before ps p (body_of b) a))
          test false a = skip q here l nz (ap (noted j o) c) (miss_full s key None prev t p r Copied (body_of b) (on_mark (body_of b) Copied c) (λ x px same bad. not_answering s prev before ps p (body_of b) a bad))
      mark_safe b nz e nb Moved c = go q here l (m.noted v i word) (rel_next j o v before t born shown i 1 rel low (m.noted v i word) word moves) (miss_full s key None prev t p r Moved (body_of b) (on_mark (body_of b) Moved c) (λ x px same bad. bad))
        where
          moves : Goes j o v (m.noted v i word) i word
          moves = record { table = refl; is_born = refl; opened = refl; parent = refl; prior = refl; lost = refl; moved = ap (λ x. cond x (slice_set v.moved i word) v.moved) (sym (ap (noted j o) c ∙ nb)); free = λ q. ap (λ x. cond x (slice_set v.free i true) v.free) (sym nz); free_size = refl }
      mark_safe b nz e nb Pending c = skip q here l nz (ap (noted j o) c) (miss_full s key None prev t p r Pending (body_of b) (on_mark (body_of b) Pending c) (λ x px same bad. none bad.1))
        where
          none : {a : ℕ} → None ≡ Some a → ⊥
          none h = cc

      slot_safe : (x : Option Slot) → (word == 0) ≡ false → slot_of word ≡ x → content word ≡ content_of x → IsSafe q (judge_slot j i v word x next)
      unfolding w.concerns
      slot_safe None nz e c = skip q here l nz (ap (noted j o) c) (none_full NoSlot c (λ k d h. no_slot h))
        where
          no_slot : {k : Mark} {d : Body} → NoSlot ≡ Full k d → ⊥
          no_slot h = cc
      slot_safe (Some b) nz e c = test (near j o b.fp b.len) refl
        where
          far : (k : Mark) → near j o b.fp b.len ≡ false → noted j o (Full k (body_of b)) ≡ false
          far Live f = refl
          far Pending f = refl
          far Copied f = refl
          far Moved f = f

          test : (x : Bool) → near j o b.fp b.len ≡ x → IsSafe q (cond x (cond (takes v i b b.mark) (post (Some b.at) (range b.at b.len) (λ ws. after_block j i v word ws next)) (cond (m.is_moved b.mark) (next (m.noted v i word)) (next v))) (next v))
          test true n = mark_safe b nz e n b.mark c
          test false n = skip q here l nz (ap (noted j o) c ∙ far b.mark n) (apart (body_of b) b.mark c n)

      content_is : (x : Bool) → (word == 0) ≡ x → content word ≡ cond x Empty (content_of (slot_of word))
      unfolding content
      content_is x e = ap (λ y. cond y Empty (content_of (slot_of word))) e

      free_goes : (word == 0) ≡ true → content word ≡ Empty → Goes j o v (m.freed v i) i word
      unfolding next_moved next_free
      free_goes e c = record { table = refl; is_born = refl; opened = refl; parent = refl; prior = refl; lost = refl; moved = ap (λ x. cond x (slice_set v.moved i word) v.moved) (sym (ap (noted j o) c)); free = λ q. ap (λ x. cond x (slice_set v.free i true) v.free) (sym e); free_size = length-set v.free i true }

      judge_safe : IsSafe q (judge j i v word next)
      judge_safe = test (word == 0) refl
        where
          empty : {k : Mark} {d : Body} → Empty ≡ Full k d → ⊥
          empty h = cc

          test : (x : Bool) → (word == 0) ≡ x → IsSafe q (cond x (next (m.freed v i)) (judge_slot j i v word (slot_of word) next))
          test true e = go q here l (m.freed v i) (rel_next j o v before t born shown i 1 rel low (m.freed v i) word (free_goes e (content_is true e))) (none_full Empty (content_is true e) (λ k d h. empty h))
          test false e = slot_safe (slot_of word) e refl (content_is false e)

    -- all candidates in order, each at the position of its own reading
    pub all_safe : (all : List Reading) (next : m.Seen → Posts Passed) (mid : Past) (rs : List Reading) (ws : List ℕ) (done : List Reading) (shown : List Shown) (i : ℕ) (v : m.Seen) (q : Past) → SawWords s t rs ws → Between since rs mid → Before mid q → Legal s q → Start s.geometry q (hash s key) t
        → done ++ rs ≡ all → map (λ (r : Reading). r.place) rs ≡ drop i (cands j o) → i + length rs ≡ length (cands j o) → Saw s.geometry t done shown → AllMiss s key None prev t done → Rel j o v before t born shown i 1
        → ((y : Past) → Before q y → Legal s y → (x : m.Seen) (shown2 : List Shown) (n : ℕ) → Rel j o x before t born shown2 n 1 → Saw s.geometry t all shown2 → AllMiss s key None prev t all → IsSafe y (next x))
        → IsSafe q (judge_all j ws i v next)
    all_safe all next mid [] [] done shown i v q sw bt mq l st whole ranks count saw miss rel f =
        let e : done ≡ all = sym (append-nil done) ∙ whole in
        f q here l v shown i rel (subst (λ x. Saw s.geometry t x shown) e saw) (subst (AllMiss s key None prev t) e miss)
    all_safe all next mid [] (x ∷ ws) done shown i v q sw bt mq l st whole ranks count saw miss rel f = absurd sw
    all_safe all next mid (r ∷ rs) [] done shown i v q sw bt mq l st whole ranks count saw miss rel f = absurd sw
    all_safe all next mid (r ∷ rs) (x ∷ ws) done shown i v q sw bt mq l st whole ranks count saw miss rel f =
        let low : i < length (cands j o) = omega arith in
        let e = same_first r.place (place j o i) (map (λ (r : Reading). r.place) rs) (drop (i + 1) (cands j o)) (ranks ∙ drop_at (cands j o) i low) in
        let wd : word_at s.geometry r.at (slot_at t (place j o i)) ≡ x = ap (λ u. word_at s.geometry r.at (slot_at t u)) (sym e.0) ∙ sw.0 in
        judge_safe i low x r.at q bt.0 (Before-trans bt.1 mq) l wd st shown v rel (λ u. judge_all j ws (i + 1) u next)
        (λ y qy ly u rel2 m2. all_safe all next mid rs ws (done ++ r ∷ []) (shown ++ record { place = place j o i; word = x } ∷ []) (i + 1) u y sw.1 bt.2 (Before-trans mq qy) ly (start_before s qy ly (hash s key) t st)
        (append_assoc done (r ∷ []) rs ∙ whole) e.1 (omega arith) (saw_push s.geometry t done shown saw r (record { place = place j o i; word = x }) e.0 sw.0)
        (all_miss_push s key None prev t done miss r (subst (λ u. Missed s key None prev t u r.at) (sym e.0) m2)) rel2
        (λ y2 b2 l2 x2 sh2 n2 r2 s2 a2. f y2 (Before-trans qy b2) l2 x2 sh2 n2 r2 s2 a2))
