-- The text and the pass over lists do the same acts, and end alike.
use Rattle.std.specs.Prelude.{◌≡◌, ℕ, zero, suc, ◌+◌, ◌-◌, ◌<◌, ◌≤◌, Bool, true, false, cond, not, ◌&&◌, ◌==◌, nat_lt, nat_le, List, [], ◌∷◌, ◌++◌, length, drop, filter, slice_index, replicate, get_or, Option, Some, None, refl}
use Rattle.std.proofs.Common.{sym, ◌∙◌, ap, subst, inr, arith}
use Rattle.slot_word.specs.declared.heads.Head.{Head}
use Rattle.slot_word.specs.declared.heads.State.{State}
use Rattle.slot_word.specs.declared.heads.State.TheVariants.{Plain, Splitting, Filling}
use Rattle.std.proofs.lemmas.List.{length-replicate, get_or-replicate}
use Rattle.node_words.specs.declared.geometry.Geometry.{Geometry}
use Rattle.bucket_group.specs.ExitLevel.{exit_level}
use Rattle.bucket_group.specs.Buckets.{first_bucket}
use Rattle.node_words.specs.Addresses.{table_words, first_free, birth_at, slot_at, bucket_header_at, child_at}
use Rattle.verb_log.specs.declared.entry.Verb.TheVariants.{Read}
use Rattle.verb_log.specs.Decoded.{NoHeader, header, header_of, header_with, birth}
use Rattle.verbs.specs.Programs.{do_verb, Prog, ret, ask}
use Rattle.pass_text.specs.Words.{level_if_gone, is_gone}
use Rattle.race_laws.specs.Looks.{is_other}
use Rattle.pass_laws.proofs.ListPass.{Aim, Mode, look, sweep, walk, Shown, Seen, gone, Ended, table_before, own_of, has_own, exit_by, places_for, scan, by_header, search_table, search_from, by_start}
use Rattle.pass_text.specs.declared.job.Job.{Job}
use Rattle.pass_text.specs.declared.job.PassMode.{PassMode}
use Rattle.pass_text.specs.declared.job.PassMode.TheVariants.{Look, Sweep, Walk}
use Rattle.pass_text.specs.declared.passed.Passed.{Passed}
use Rattle.pass_text.specs.declared.passed.PassEnd.TheVariants.{Clear, Gone}
use Rattle.pass_text.specs.declared.job.Opened.{Opened}
use Rattle.pass_text.specs.Pass as m
use Rattle.pass_text.specs.Words as w
use Rattle.pass_laws.proofs.Sim.{Sim, SameMode, aim_of}
use Rattle.pass_laws.proofs.SameWords.{drop_all, drop_at, form_some, free_clear, free_gone, head_alike, level_same, sweep_look}
use Rattle.pass_laws.proofs.SameSeen.{cands, place, few, LeftSo, SpareSo, left_lost, Rel, R, opened_as}
use Rattle.pass_laws.proofs.SameJudging.{judge_sim}

module _ (j : Job) (o : Opened) where
  module _ (md : Mode) (left0 : ℕ) (same : SameMode j.mode md left0) where
    abbrev g : Geometry
    g = j.geometry

    abbrev aim : Aim
    aim = aim_of j

    -- the own slot is left out
    own_same : (s : m.Seen) (t p : ℕ) → s.table ≡ t → w.is_own j (slot_at s.table p) ≡ not (is_other (own_of md) t p)
    unfolding w.is_own
    own_same s t p e = by j.mode md same
      where
        twice : (v : Bool) → v ≡ not (not v)
        twice true = refl
        twice false = refl

        by : (pm : PassMode) (md2 : Mode) → SameMode pm md2 left0 → w.own_in pm (slot_at s.table p) ≡ not (is_other (own_of md2) t p)
        by Look look sm = refl
        by Walk walk sm = refl
        by (Sweep own n) (sweep u q) sm = ap (λ v. slot_at v p == own) e ∙ ap (λ v. slot_at t p == v) sm.0 ∙ twice (slot_at t p == slot_at u q)
        by Look (sweep u q) sm = absurd sm
        by Look walk sm = absurd sm
        by Walk look sm = absurd sm
        by Walk (sweep u q) sm = absurd sm
        by (Sweep own n) look sm = absurd sm
        by (Sweep own n) walk sm = absurd sm

    -- a look leaves out none
    not_look : (t p : ℕ) → j.mode ≡ Look → is_other (own_of md) t p ≡ false → ⊥
    not_look t p q e = by j.mode md same q e
      where
        walk_look : Walk ≡ Look → ⊥
        walk_look h = cc

        by : (pm : PassMode) (md2 : Mode) → SameMode pm md2 left0 → pm ≡ Look → is_other (own_of md2) t p ≡ false → ⊥
        by Look look sm q e = cc
        by Walk walk sm q e = walk_look q
        by (Sweep own n) (sweep u r) sm q e = sweep_look q
        by Look (sweep u r) sm q e = absurd sm
        by Look walk sm q e = absurd sm
        by Walk look sm q e = absurd sm
        by Walk (sweep u r) sm q e = absurd sm
        by (Sweep own n) look sm q e = absurd sm
        by (Sweep own n) walk sm q e = absurd sm

    spare_so : (pm : PassMode) (lost left : ℕ) → (LeftSo j o) pm lost left → (SpareSo j o) pm (w.left_in pm - (lost + 1)) left
    spare_so Look lost left h = tt
    spare_so Walk lost left h = tt
    spare_so (Sweep own n) lost left h = let x = h.0 in let y = h.1 in omega arith

    -- the candidates of a table
    module _ (before : Option Seen) (t born : ℕ) (next : m.Seen → Prog Passed) (then : List Shown → ℕ → Prog Ended) (go : (r : m.Seen) (seen : List Shown) (i left : ℕ) → Rel j o r before t born seen i left → Sim (R j o) (next r) (then seen left)) where
      later_rel : (s : m.Seen) (seen : List Shown) (i left : ℕ) → (j.mode ≡ Look → ⊥) → Rel j o s before t born seen i left → Rel j o s before t born seen (i + 1) left
      later_rel s seen i left nl h = record { table = h.table; is_born = h.is_born; opened = h.opened; parent = h.parent; marks = h.marks; size = h.size; fresh = λ k from lk. h.fresh k (omega arith) lk; prior = h.prior; left_so = h.left_so; free_so = λ q. absurd (nl q); free_fresh = λ q. absurd (nl q); free_size = h.free_size }

      scan_sim : (n i : ℕ) (s : m.Seen) (seen : List Shown) (left : ℕ) → i + n ≡ length (cands j o) → Rel j o s before t born seen i left → Sim (R j o) (m.scan j n i s next) (scan g aim md before t (filter (is_other (own_of md) t) (drop i (cands j o))) seen left then)
      unfolding w.candidate_at
      scan_sim zero i s seen left e h = subst (λ v. Sim (R j o) (next s) (scan g aim md before t (filter (is_other (own_of md) t) v) seen left then)) (sym (drop_all (cands j o) i (omega arith))) (go s seen i left h)
      scan_sim (suc n) i s seen left e h =
          subst (λ v. Sim (R j o) (m.scan j (suc n) i s next) (scan g aim md before t (filter (is_other (own_of md) t) v) seen left then)) (sym (drop_at (cands j o) i (omega arith)))
          (by n i s seen left e h (λ s2 seen2 left2 h2. scan_sim n (i + 1) s2 seen2 left2 (omega arith) h2))
        where
          by : (n i : ℕ) (s : m.Seen) (seen : List Shown) (left : ℕ) → i + suc n ≡ length (cands j o) → Rel j o s before t born seen i left
              → ((s2 : m.Seen) (seen2 : List Shown) (left2 : ℕ) → Rel j o s2 before t born seen2 (i + 1) left2 → Sim (R j o) (m.scan j n (i + 1) s2 next) (scan g aim md before t (filter (is_other (own_of md) t) (drop (i + 1) (cands j o))) seen2 left2 then))
              → Sim (R j o) (m.scan j (suc n) i s next) (scan g aim md before t (filter (is_other (own_of md) t) ((place j o) i ∷ drop (i + 1) (cands j o))) seen left then)
          by n i s seen left e h rest = test (is_other (own_of md) t ((place j o) i)) refl (w.is_own j (w.candidate_at j s.table i)) at_same
            where
              at_same : w.is_own j (w.candidate_at j s.table i) ≡ not (is_other (own_of md) t ((place j o) i))
              at_same = own_same s t ((place j o) i) h.table

              low : i < length (cands j o)
              low = omega arith

              test : (v : Bool) → is_other (own_of md) t ((place j o) i) ≡ v → (x : Bool) → x ≡ not v
                  → Sim (R j o) (cond x (m.scan j n (i + 1) s next) (ask (do_verb None (Read (w.candidate_at j s.table i))) (λ word. m.judge j (m.spare j s) i s word (λ r. m.scan j n (i + 1) r next))))
                  (scan g aim md before t (cond v ((place j o) i ∷ filter (is_other (own_of md) t) (drop (i + 1) (cands j o))) (filter (is_other (own_of md) t) (drop (i + 1) (cands j o)))) seen left then)
              test true x false q = (
                ap (λ v. do_verb None (Read (slot_at v ((place j o) i)))) h.table,
                λ word.
                    judge_sim j o md left0 same before t born seen i low (λ r. m.scan j n (i + 1) r next) (λ shown left2. scan g aim md before t (filter (is_other (own_of md) t) (drop (i + 1) (cands j o))) (seen ++ record { place = (place j o) i; word = shown } ∷ []) left2 then)
                    (λ r word2 left2 h2. rest r (seen ++ record { place = (place j o) i; word = word2 } ∷ []) left2 h2) (m.spare j s) s left h word (spare_so j.mode s.lost left h.left_so),
              )
              test false x true q = rest s seen left (later_rel s seen i left (λ y. not_look t ((place j o) i) y x) h)
              test true x true q = absurd (cc)
              test false x false q = absurd (cc)

    own_table_same : (t u : ℕ) → t ≡ u → w.has_own j t ≡ has_own g md u
    unfolding w.has_own
    own_table_same t u e = ap (λ v. w.own_table_in j.mode v (table_words g)) e ∙ by j.mode md same
      where
        by : (pm : PassMode) (md2 : Mode) → SameMode pm md2 left0 → w.own_table_in pm u (table_words g) ≡ has_own g md2 u
        by Look look sm = refl
        by Walk walk sm = refl
        by (Sweep own n) (sweep x q) sm = ap (λ v. nat_le u v && nat_lt v (u + table_words g)) sm.0
        by Look (sweep x q) sm = absurd sm
        by Look walk sm = absurd sm
        by Walk look sm = absurd sm
        by Walk (sweep x q) sm = absurd sm
        by (Sweep own n) look sm = absurd sm
        by (Sweep own n) walk sm = absurd sm

    -- the key's header, and the way down
    last_sim : (before : Option Seen) (t born : ℕ) (seen : List Shown) (i left : ℕ) (s : m.Seen) → Rel j o s before t born seen i left → (next : m.Seen → Prog Passed) (below : ℕ → ℕ → Prog Ended)
        → ((head : Head) (level child : ℕ) → Sim (R j o) (next (m.below (m.with_head s head) child level)) (below (w.address_of child) (level + 1)))
        → Sim (R j o) (m.last j next s) (ask (do_verb None (Read (bucket_header_at t (first_bucket g.groups j.hash)))) (λ word. by_header g aim md before t seen left (header word) (exit_by (header word) (exit_level j.hash born)) below))
    unfolding m.head_read w.key_header_at
    last_sim before t born seen i left s h next below go = (
      ap (λ v. do_verb None (Read (bucket_header_at v (first_bucket g.groups j.hash)))) h.table,
      λ word.
          subst (λ v. Sim (R j o) (m.after_head j (m.with_head s (w.head_in word)) next (w.level_left j.hash s.birth_depth (w.head_in word))) (by_header g aim md before t seen left (header word) v below))
          (ap (λ b. w.level_left j.hash b (w.head_in word)) h.is_born ∙ level_same word j.hash born)
          (by word (w.level_left j.hash s.birth_depth (w.head_in word))),
    )
      where
        by : (word : ℕ) (v : Option ℕ) → Sim (R j o) (m.after_head j (m.with_head s (w.head_in word)) next v) (by_header g aim md before t seen left (header word) v below)
        by word None = record { table = h.table; opened = (opened_as j o) s h.opened; places = refl; end = (refl, h.parent, head_alike word); lost = (left_lost j o) j.mode s.lost left h.left_so; free = free_clear j.mode s.free (table_before before) seen (header word) (λ q. (h.free_so q).0) }
        by word (Some level) = test (w.has_own j s.table) (has_own g md t) (own_table_same s.table t h.table)
          where
            test : (v x : Bool) → v ≡ x → Sim (R j o) (cond v (ret (m.passed j (m.with_head s (w.head_in word)) Gone)) (ask (do_verb None (Read (child_at s.table level))) (λ child. next (m.below (m.with_head s (w.head_in word)) child level))))
                (cond x (ret (record { table = t; how = gone (header word); left = left })) (ask (do_verb None (Read (child_at t level))) (λ child. below (w.address_of child) (level + 1))))
            test true true e = record { table = h.table; opened = (opened_as j o) s h.opened; places = refl; end = (refl, head_alike word); lost = (left_lost j o) j.mode s.lost left h.left_so; free = free_gone j.mode s.free (header word) }
            test false false e = (ap (λ v. do_verb None (Read (child_at v level))) h.table, λ child. go (w.head_in word) level child)
            test true false e = absurd (cc)
            test false true e = absurd (cc)

    zeros : (k : ℕ) → k < length (cands j o) → slice_index (replicate 28 0) k ≡ 0
    zeros k lk = let f = (few j o) in get_or-replicate 28 k 0 0 (omega arith)

    nones : (k : ℕ) → k < length (cands j o) → get_or (replicate 28 false) k false ≡ false
    nones k lk = let f = (few j o) in get_or-replicate 28 k false false (omega arith)

    long_nones : length (replicate 28 false) ≡ 28
    long_nones = length-replicate 28 false

    long_zeros : length (replicate {A = ℕ} 28 0) ≡ 28
    long_zeros = length-replicate {A = ℕ} 28 0

    -- a table below
    below_rel : (before : Option Seen) (t born : ℕ) (seen : List Shown) (i left : ℕ) (s : m.Seen) → Rel j o s before t born seen i left → (head : Head) (level child : ℕ) → Rel j o (m.below (m.with_head s head) child level) (Some (record { table = t; shown = seen })) (w.address_of child) (level + 1) [] 0 left
    below_rel before t born seen i left s h head level child = record {
      table = refl;
      is_born = refl;
      opened = h.opened;
      parent = ap (λ v. Some v) h.table;
      marks = λ k lk b sb nb. ap (λ n. n == w.moved_form b) (zeros k lk) ∙ form_some b sb;
      size = long_zeros;
      fresh = λ k from lk. zeros k lk;
      prior = h.marks;
      left_so = h.left_so;
      free_so = λ q. (tt, refl);
      free_fresh = λ q k from lk. nones k lk;
      free_size = long_nones;
    }

    -- the candidates that are read
    count_same : (t : ℕ) (before : Option Seen) (born : ℕ) (s : m.Seen) (left : ℕ) (next : m.Seen → Prog Passed) (then : List Shown → ℕ → Prog Ended) → ((r : m.Seen) (seen : List Shown) (i left : ℕ) → Rel j o r before t born seen i left → Sim (R j o) (next r) (then seen left)) → Rel j o s before t born [] 0 left
        → Sim (R j o) (m.scan j (w.count j) 0 s next) (scan g aim md before t (places_for g j.hash md t) [] left then)
    unfolding w.count
    count_same t before born s left next then go h = by j.mode md same (scan_sim before t born next then go (length (cands j o)) 0 s [] left (omega arith) h)
      where
        by : (pm : PassMode) (md2 : Mode) → SameMode pm md2 left0 → Sim (R j o) (m.scan j (length (cands j o)) 0 s next) (scan g aim md before t (filter (is_other (own_of md2) t) (cands j o)) [] left then) → Sim (R j o) (m.scan j (w.count_in pm (length (cands j o))) 0 s next) (scan g aim md before t (places_for g j.hash md2 t) [] left then)
        by Look look sm x = x
        by (Sweep own n) (sweep u q) sm x = x
        by Walk walk sm x = go s [] 0 left h
        by Look (sweep u q) sm x = absurd sm
        by Look walk sm x = absurd sm
        by Walk look sm x = absurd sm
        by Walk (sweep u q) sm x = absurd sm
        by (Sweep own n) look sm x = absurd sm
        by (Sweep own n) walk sm x = absurd sm

    -- a table and those below it
    search_sim : (n : ℕ) (s : m.Seen) (before : Option Seen) (t born left : ℕ) → Rel j o s before t born [] 0 left → Sim (R j o) (m.search j n s) (search_table g aim md (suc n) before t born left)
    unfolding m.search
    search_sim zero s before t born left h = count_same t before born s left (m.last j (λ r. ret (m.passed j r Clear))) _
        (λ r seen i left2 h2. last_sim before t born seen i left2 r h2 (λ x. ret (m.passed j x Clear)) (λ child born2. search_table g aim md zero (Some (record { table = t; shown = seen })) child born2 left2)
        (λ head level child. let b = below_rel before t born seen i left2 r h2 head level child in record { table = b.table; opened = (opened_as j o) (m.below (m.with_head r head) child level) b.opened; places = refl; end = (refl, b.parent, inr refl); lost = (left_lost j o) j.mode r.lost left2 h2.left_so; free = free_clear j.mode (replicate 28 false) (Some t) [] NoHeader (λ q. tt) })) h
    search_sim (suc n) s before t born left h = count_same t before born s left (m.last j (m.search j n)) _
        (λ r seen i left2 h2. last_sim before t born seen i left2 r h2 (m.search j n) (λ child born2. search_table g aim md (suc n) (Some (record { table = t; shown = seen })) child born2 left2)
        (λ head level child. search_sim n (m.below (m.with_head r head) child level) (Some (record { table = t; shown = seen })) (w.address_of child) (level + 1) left2 (below_rel before t born seen i left2 r h2 head level child))) h

    first_left : (pm : PassMode) (md2 : Mode) → SameMode pm md2 left0 → (LeftSo j o) pm 0 left0
    first_left Look look sm = sm
    first_left Walk walk sm = sm
    first_left (Sweep own n) (sweep u q) sm = (let e = sm.1 in omega arith, subst (λ v. 1 ≤ v) (sym sm.1) sm.2)
    first_left Look (sweep u q) sm = absurd sm
    first_left Look walk sm = absurd sm
    first_left Walk look sm = absurd sm
    first_left Walk (sweep u q) sm = absurd sm
    first_left (Sweep own n) look sm = absurd sm
    first_left (Sweep own n) walk sm = absurd sm

    first_rel : (t born : ℕ) → Rel j o (m.first_seen o t born) None t born [] 0 left0
    first_rel t born = record {
      table = refl;
      is_born = refl;
      opened = refl;
      parent = refl;
      marks = λ k lk b sb nb. ap (λ n. n == w.moved_form b) (zeros k lk) ∙ form_some b sb;
      size = long_zeros;
      fresh = λ k from lk. zeros k lk;
      prior = zeros;
      left_so = first_left j.mode md same;
      free_so = λ q. (tt, refl);
      free_fresh = λ q k from lk. nones k lk;
      free_size = long_nones;
    }

    begin_sim : (t : ℕ) → Sim (R j o) (m.begin j o t) (search_from g aim md t left0)
    unfolding w.is_first
    begin_sim t = test (nat_lt t (first_free g))
      where
        test : (v : Bool) → Sim (R j o) (cond v (m.search j j.geometry.max_depth (m.first_seen o t j.geometry.first_depth)) (ask (do_verb None (Read (birth_at t))) (λ x. m.search j j.geometry.max_depth (m.first_seen o t (birth x).depth))))
            (cond v (search_table g aim md (suc g.max_depth) None t g.first_depth left0) (ask (do_verb None (Read (birth_at t))) (λ x. search_table g aim md (suc g.max_depth) None t (birth x).depth left0)))
        test true = search_sim g.max_depth (m.first_seen o t g.first_depth) None t g.first_depth left0 (first_rel t g.first_depth)
        test false = (refl, λ x. search_sim g.max_depth (m.first_seen o t (birth x).depth) None t (birth x).depth left0 (first_rel t (birth x).depth))

    -- from the header with which the pass opens
    pub header_sim : (t : ℕ) (head : Head) → o ≡ record { table = t; head = head } → Sim (R j o) (m.on_header j t head) (by_start g aim md t left0 (header_of (Some head)))
    header_sim t head e = subst (λ v. Sim (R j o) (cond (w.is_filling head.state) (ask (do_verb None (Read (birth_at t))) (λ x. m.begin j v (birth x).parent)) (m.begin j v t)) (by_start g aim md t left0 (header_of (Some head)))) e (state head.state)
      where
        state : (st : State) → Sim (R j o) (cond (w.is_filling st) (ask (do_verb None (Read (birth_at t))) (λ x. m.begin j o (birth x).parent)) (m.begin j o t)) (by_start g aim md t left0 (header_with head.depth st))
        state Plain = begin_sim t
        state Splitting = begin_sim t
        state Filling = (refl, λ x. begin_sim (birth x).parent)
