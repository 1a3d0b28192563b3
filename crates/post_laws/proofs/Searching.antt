-- A posted look from table to table.
use Rattle.std.specs.Prelude.{◌≡◌, ℕ, zero, suc, ◌+◌, ◌<◌, ◌≤◌, Bool, false, ◌==◌, List, [], ◌∷◌, length, map, filter, slice_index, get_or, replicate, Option, Some, None, refl}
use Rattle.std.proofs.Common.{sym, ◌∙◌, ap, subst, inl, inr, arith, ⊎_elim}
use Rattle.std.proofs.lemmas.List.{length-map, length-replicate, get_or-replicate}
use Rattle.slot_word.specs.declared.heads.Head.{Head}
use Rattle.kv_block.specs.Bytes.{AreBytes}
use Rattle.bucket_group.specs.ExitLevel.{exit_level}
use Rattle.bucket_group.proofs.ExitLaws.{exit-some, exit-below}
use Rattle.node_words.specs.Addresses.{child_at, slot_at, bucket_header_at}
use Rattle.verb_log.specs.Decoded.{NoHeader, header_of}
use Rattle.verb_log.specs.Tables.{Past, Before, here, word_at}
use Rattle.verb_log.proofs.Positions.{Before-trans}
use Rattle.race_laws.specs.Setting.{Setting, hash, places, main_of}
use Rattle.race_laws.specs.Standing.{IsTable, header_in, child_in, key_header, IsIn, Stays}
use Rattle.race_laws.specs.Looks.{Reading, Searched, Between, is_other, Misses, Passing, goes_on}
use Rattle.race_laws.specs.Legal.{Legal}
use Rattle.race_laws.proofs.Positions.{legal_before}
use Rattle.race_laws.proofs.SoundStep.{sound}
use Rattle.race_laws.proofs.Covers.{table_before}
use Rattle.race_laws.proofs.Frames.{child_before}
use Rattle.race_laws.proofs.Opening.{splits}
use Rattle.race_laws.proofs.Chain.{born_at, born_before}
use Rattle.race_laws.proofs.Passes.{between_span, passing_span}
use Rattle.race_laws.proofs.Presence.{candidate_place}
use Rattle.log_facts.specs.Start.{Start, below}
use Rattle.log_facts.proofs.Growing.{since_before}
use Rattle.log_facts.proofs.Within.{bucket_low, child_low, slot_within}
use Rattle.log_facts.proofs.Keys.{main_below}
use Rattle.log_facts.proofs.Heads.{gone_child, bucket_valid}
use Rattle.log_facts.proofs.Starts.{start_table, start_before, start_on}
use Rattle.pass_text.specs.declared.job.Job.{Job}
use Rattle.pass_text.specs.declared.job.Opened.{Opened}
use Rattle.pass_text.specs.declared.job.PassMode.TheVariants.{Look}
use Rattle.pass_text.specs.declared.passed.PassEnd.TheVariants.{Clear}
use Rattle.pass_text.specs.declared.passed.Passed.{Passed}
use Rattle.pass_text.specs.Words as w
use Rattle.pass_text.specs.Pass as m
use Rattle.pass_laws.specs.Drops.{Drops}
use Rattle.pass_laws.specs.HasPassed as told
use Rattle.pass_laws.proofs.ListPass.{Shown, Seen, exit_by}
use Rattle.pass_laws.proofs.ListEnd.{Saw}
use Rattle.pass_laws.proofs.Seen.{PrevSaw, before_same_table}
use Rattle.pass_laws.proofs.Exits.{exit_none, exit_some}
use Rattle.pass_laws.proofs.Sim.{FreeFrom}
use Rattle.pass_laws.proofs.SameWords.{form_some, level_same, head_alike}
use Rattle.pass_laws.proofs.SameSeen.{cands, few, Rel}
use Rattle.pass_laws.proofs.TableAddress.{table_address}
use Rattle.post_text.specs.Posts.{Posts, ends, Posted, waits, has, waiting, words, post, post_one}
use Rattle.post_text.specs.Look.{candidates_in, judge_all, scan, after_head, head_read, last, search}
use Rattle.post_laws.specs.SafePosts.{PostsBy}
use Rattle.post_laws.proofs.PostedReads.{Filled, addresses, post_safe, one_safe}
use Rattle.post_laws.proofs.PostedBlock.{same_first}
use Rattle.post_laws.proofs.Spread.{between_from, between_to}
use Rattle.post_laws.proofs.Looking.{look_of, SawWords, End, finish, all_safe}

-- where the words of a table stood
record Readings (s : Setting) (from q : Past) (t : ℕ) (ps : List ℕ) (ws : List ℕ) : Type 0 where
  seen : List Reading
  stand : Between from seen q
  saw : SawWords s t seen ws
  whole : map (λ (r : Reading). r.place) seen ≡ ps

readings : (s : Setting) (from q : Past) (t : ℕ) (ps : List ℕ) (xs : List Posted) → Before from q → addresses xs ≡ map (slot_at t) ps → waiting None xs ≡ [] → Filled s from q xs → Readings s from q t ps (words xs)
readings s from q t [] [] b a w f = record { seen = []; stand = b; saw = tt; whole = refl }
readings s from q t [] (x ∷ xs) b a w f = absurd (cc)
readings s from q t (p ∷ ps) [] b a w f = absurd (cc)
readings s from q t (p ∷ ps) (waits at ∷ xs) b a w f = absurd (cc)
readings s from q t (p ∷ ps) (has at word ∷ xs) b a w f =
    let e = same_first at (slot_at t p) (addresses xs) (map (slot_at t) ps) a in
    let r = readings s from q t ps xs b e.1 w f.1 in
    let o = f.0 in
    record {
      seen = record { place = p; at = o.0 } ∷ r.seen;
      stand = (o.1, o.2, r.stand);
      saw = (ap (word_at s.geometry o.0) (sym e.0) ∙ o.3, r.saw);
      whole = ap (λ v. p ∷ v) r.whole;
    }

from_zero : (n k : ℕ) → n ≡ k → 0 + n ≡ k
from_zero n k e = omega arith

-- a look leaves out no place
all_places : (t : ℕ) (ps : List ℕ) → filter (is_other None t) ps ≡ ps
all_places t [] = refl
all_places t (p ∷ ps) = ap (λ v. p ∷ v) (all_places t ps)

-- each address of candidates is that of one
map_in : (t : ℕ) (ps : List ℕ) (a : ℕ) → IsIn a (map (slot_at t) ps) → (p : ℕ) × IsIn p ps × (a ≡ slot_at t p)
map_in t [] a h = absurd h
map_in t (p ∷ ps) a h = ⊎_elim (λ (e : a ≡ slot_at t p). (p, inl refl, e)) (λ (i : IsIn a (map (slot_at t) ps)). let x = map_in t ps a i in (x.0, inr x.1, x.2)) h

-- the slots that are remembered as free are those that readings showed as 0
free_read : (s : Setting) (t : ℕ) (free : List Bool) (i : ℕ) (seen : List Reading) (shown : List Shown) → Saw s.geometry t seen shown → FreeFrom free i shown → told.FreeFrom s.geometry t free i seen
free_read s t free i [] [] saw f = tt
free_read s t free i [] (x ∷ xs) saw f = tt
free_read s t free i (r ∷ rs) [] saw f = absurd saw
free_read s t free i (r ∷ rs) (x ∷ xs) saw f = (f.0 ∙ ap (λ w. w == 0) (sym saw.1), free_read s t free (i + 1) rs xs saw.2 f.1)

module _ (s : Setting) (c : ℕ) (key : List ℕ) (bytes : AreBytes key) (o : Opened) (from z : Past) (bf : Before from z) (head_at : header_in s.geometry z o.table ≡ header_of (Some o.head)) where
  abbrev J : Job
  J = look_of s key

  abbrev Ends : Past → Passed → Type 0
  Ends y p = End s c key bytes o from z bf head_at y p

  abbrev Safe : Past → Posts Passed → Type 0
  Safe q p = PostsBy (Drops Look) s c q p Ends

  -- the key's header was read
  with_rel : (before : Option Seen) (t born n : ℕ) (shown : List Shown) (v : m.Seen) (h : Head) → Rel J o v before t born shown n 1 → Rel J o (m.with_head v h) before t born shown n 1
  with_rel before t born n shown v h r = record { table = r.table; is_born = r.is_born; opened = r.opened; parent = r.parent; marks = r.marks; size = r.size; fresh = r.fresh; prior = r.prior; left_so = r.left_so; free_so = r.free_so; free_fresh = r.free_fresh; free_size = r.free_size }

  zeros : (k : ℕ) → k < length (cands J o) → slice_index (replicate 28 0) k ≡ 0
  zeros k lk = let f = few J o in get_or-replicate 28 k 0 0 (omega arith)

  nones : (k : ℕ) → k < length (cands J o) → get_or (replicate 28 false) k false ≡ false
  nones k lk = let f = few J o in get_or-replicate 28 k false false (omega arith)

  -- nothing was read yet in the first table
  pub first_rel : (t born : ℕ) → Rel J o (m.first_seen o t born) None t born [] 0 1
  first_rel t born = record {
    table = refl;
    is_born = refl;
    opened = refl;
    parent = refl;
    marks = λ k lk b sb nb. ap (λ n. n == w.moved_form b) (zeros k lk) ∙ form_some b sb;
    size = length-replicate {A = ℕ} 28 0;
    fresh = λ k from lk. zeros k lk;
    prior = zeros;
    left_so = omega arith;
    free_so = λ q. (tt, refl);
    free_fresh = λ q k from lk. nones k lk;
    free_size = length-replicate 28 false;
  }

  -- .. nor in a table below
  below_rel : (before : Option Seen) (t born n : ℕ) (shown : List Shown) (v : m.Seen) (level child : ℕ) → Rel J o v before t born shown n 1 → Rel J o (m.below v child level) (Some (record { table = t; shown = shown })) (w.address_of child) (level + 1) [] 0 1
  below_rel before t born n shown v level child r = record {
    table = refl;
    is_born = refl;
    opened = r.opened;
    parent = ap (λ u. Some u) r.table;
    marks = λ k lk b sb nb. ap (λ n. n == w.moved_form b) (zeros k lk) ∙ form_some b sb;
    size = length-replicate {A = ℕ} 28 0;
    fresh = λ k from lk. zeros k lk;
    prior = r.marks;
    left_so = r.left_so;
    free_so = λ q. (tt, refl);
    free_fresh = λ q k from lk. nones k lk;
    free_size = length-replicate 28 false;
  }

  -- what follows below a table is safe
  abbrev pub Below : ℕ → Past → (m.Seen → Posts Passed) → Type 0
  Below t since next =
      (seen : List Reading) (shown : List Shown) (end y : Past) (i ch : ℕ) (x : m.Seen) → Before since end → Before end y → Legal s y → Rel J o x (Some (record { table = t; shown = shown })) ch (i + 1) [] 0 1
      → Passing Between s key None z (Some (record { table = t; seen = seen })) ch end → Start s.geometry end (hash s key) ch → born_at s.geometry end ch ≡ i + 1 → born_at s.geometry end t ≤ i → Saw s.geometry t seen shown → Safe y (next x)

  -- a table that the look has come to
  module _ (prev : Option Searched) (before : Option Seen) (ps : PrevSaw s.geometry prev before) (t born : ℕ) (since : Past) (pass : Passing Between s key None z prev t since) (st : Start s.geometry since (hash s key) t) (be : born ≡ born_at s.geometry since t) (next : m.Seen → Posts Passed) (down : Below t since next) where
    -- the key's header, after its candidates
    module _ (seen : List Reading) (shown : List Shown) (n : ℕ) (v : m.Seen) (rel : Rel J o v before t born shown n 1) (end : Past) (span : Before since end) (l : Legal s end) (mi : Misses Between s key None prev t seen since end) (saw : Saw s.geometry t seen shown) where
      abbrev h : Head
      h = w.head_in (word_at s.geometry end (bucket_header_at t (main_of s key)))

      st2 : Start s.geometry end (hash s key) t
      st2 = start_before s span l (hash s key) t st

      table2 : IsTable s.geometry end t
      table2 = start_table s end l (hash s key) t st2

      zend : Before z end
      zend = Before-trans (passing_span Between between_span s key None z prev t since pass) span

      head_is : key_header s end t key ≡ header_of (Some h)
      head_is = ⊎_elim (λ (x : header_of (Some h) ≡ key_header s end t key). sym x) (λ (x : key_header s end t key ≡ NoHeader). absurd (bucket_valid s end l t (main_of s key) table2 (main_below s key) x)) (head_alike (word_at s.geometry end (bucket_header_at t (main_of s key))))

      clear_end : Stays s end t key (key_header s end t key) → Ends end (m.passed J (m.with_head v h) Clear)
      clear_end stays = finish s c key bytes o from z bf head_at end t born n before shown (m.with_head v h) (with_rel before t born n shown v h rel) zend st2 Clear (record {
        passed = record { prev = prev; table = t; since = since; passing = pass; seen = seen; end = end; misses = mi; up_to = here; stays = stays; has_own = tt };
        table = sym rel.table;
        parent = before_same_table s.geometry prev before ps ∙ sym rel.parent;
        head = ap (λ u. key_header s end u key) rel.table ∙ head_is;
        free = subst (λ u. told.FreeFrom s.geometry u v.free 0 seen) (sym rel.table) (free_read s t v.free 0 seen shown saw (rel.free_so refl).0);
      })

      by_level : (x : Option ℕ) → exit_by (key_header s end t key) (exit_level (hash s key) (born_at s.geometry end t)) ≡ x → Safe end (after_head J (m.with_head v h) next x)
      by_level None e = clear_end (λ i ex g. exit_none (key_header s end t key) (exit_level (hash s key) (born_at s.geometry end t)) e i ex g)
      by_level (Some i) e =
          let x = exit_some (key_header s end t key) (exit_level (hash s key) (born_at s.geometry end t)) i e in
          let low = (exit-some (hash s key) (born_at s.geometry end t) i x.0).from in
          let e16 = exit-below (hash s key) (born_at s.geometry end t) i x.0 in
          let some = gone_child s end l t (main_of s key) i table2 (main_below s key) e16 low x.1 in
          let chain = start_on s end l (hash s key) t i st2 e16 some in
          let born2 = (splits s end l).born t i (child_in s.geometry end t i) table2 e16 refl some in
          subst (λ u. Safe end (post_one (child_at u i) (λ child. next (m.below (m.with_head v h) child i)))) (sym rel.table)
          (one_safe Passed (Drops Look) s c Ends end (child_at t i) (child_low s end l t table2 i e16) (λ child. next (m.below (m.with_head v h) child i))
          (λ y ly sy.
          let ey = since_before sy in
          let same : w.address_of (word_at s.geometry y (child_at t i)) ≡ child_in s.geometry end t i = ap w.address_of (child_before s ey ly t i table2 e16 some) ∙ table_address s.geometry end (sound s end l) (child_in s.geometry end t i) born2.table in
          down seen shown end y i (child_in s.geometry end t i) (m.below (m.with_head v h) (word_at s.geometry y (child_at t i)) i) span ey ly
          (subst (λ u. Rel J o (m.below (m.with_head v h) (word_at s.geometry y (child_at t i)) i) (Some (record { table = t; shown = shown })) u (i + 1) [] 0 1) same
          (below_rel before t born n shown (m.with_head v h) i (word_at s.geometry y (child_at t i)) (with_rel before t born n shown v h rel)))
          (goes_on prev t since end seen i (child_in s.geometry end t i) pass mi x.0 x.1 refl some)
          (below t i (child_in s.geometry end t i) chain x.0 refl some) born2.level low saw))

      pub header_safe : Safe end (head_read J next v (w.head_in (word_at s.geometry end (bucket_header_at t (main_of s key)))))
      unfolding head_read
      header_safe =
          let tb = start_table s since (legal_before s span l) (hash s key) t st in
          let depth : v.birth_depth ≡ born_at s.geometry end t = rel.is_born ∙ be ∙ sym (born_before s span l t tb) in
          by_level (w.level_left (hash s key) v.birth_depth h) (ap (λ b. exit_by (key_header s end t key) (exit_level (hash s key) b)) (sym depth) ∙ sym (level_same (word_at s.geometry end (bucket_header_at t (main_of s key))) (hash s key) v.birth_depth))

    -- a table whose candidates are posted together and done in any order
    pub table_safe : (v : m.Seen) (q : Past) → Before since q → Legal s q → Rel J o v before t born [] 0 1 → Safe q (scan J v (last J next))
    unfolding candidates_in w.key_header_at
    table_safe v q sq l rel =
        subst (λ u. Safe q (post None (candidates_in J u) (λ ws. judge_all J ws 0 v (last J next)))) (sym rel.table)
        (post_safe Passed (Drops Look) s c Ends None q (map (slot_at t) (places s key)) low (λ y sy ly a i. tt) (λ ws. judge_all J ws 0 v (last J next))
        (λ y xs sy ly filled none at.
        let qy = since_before sy in
        let rd = readings s q y t (places s key) xs qy at none filled in
        let stand = between_from since q rd.seen y sq rd.stand in
        all_safe s c key bytes o from z bf head_at prev before ps t born since pass rd.seen (last J next) y rd.seen (words xs) [] [] 0 v y rd.saw stand here ly (start_before s (Before-trans sq qy) ly (hash s key) t st)
        refl rd.whole (from_zero (length rd.seen) (length (places s key)) (sym (length-map rd.seen (λ (r : Reading). r.place)) ∙ ap (λ (u : List ℕ). length u) rd.whole)) tt tt rel
        (λ y2 b2 l2 x shown n rel2 saw miss.
        subst (λ u. Safe y2 (post_one (bucket_header_at u (main_of s key)) (λ a. head_read J next x (w.head_in a)))) (sym rel2.table)
        (one_safe Passed (Drops Look) s c Ends y2 (bucket_header_at t (main_of s key)) (bucket_low s y2 l2 t (table_before s.geometry (Before-trans sq (Before-trans qy b2)) t t tb) (main_of s key) (main_below s key)) (λ a. head_read J next x (w.head_in a))
        (λ end le se.
        let ye = Before-trans b2 (since_before se) in
        header_safe rd.seen shown n x rel2 end (Before-trans sq (Before-trans qy ye)) le
        (record { stand = between_to since rd.seen y end ye stand; whole = rd.whole ∙ sym (all_places t (places s key)); miss = miss }) saw)))) l)
      where
        ls : Legal s since
        ls = legal_before s sq l

        tb : IsTable s.geometry since t
        tb = start_table s since ls (hash s key) t st

        low : (a : ℕ) → IsIn a (map (slot_at t) (places s key)) → a < s.geometry.words
        low a i =
            let x = map_in t (places s key) a i in
            subst (λ u. u < s.geometry.words) (sym x.2) (slot_within s q l t x.0 (table_before s.geometry sq t t tb) (candidate_place s key x.0 x.1))

  -- no table lies deeper than the greatest depth
  deep_enough : (end : Past) → Legal s end → (ch i : ℕ) → Start s.geometry end (hash s key) ch → born_at s.geometry end ch ≡ i + 1 → s.geometry.max_depth ≤ i → ⊥
  deep_enough end l ch i st born deep =
      let tb = start_table s end l (hash s key) ch st in
      let x = (splits s end l).from ch tb in
      let y = (splits s end l).deep ch tb in
      omega arith

  -- a table and all below it
  pub search_safe : (n : ℕ) (prev : Option Searched) (before : Option Seen) (ps : PrevSaw s.geometry prev before) (t born : ℕ) (since q : Past) (v : m.Seen) → Passing Between s key None z prev t since → Before since q → Legal s q → Start s.geometry since (hash s key) t → born ≡ born_at s.geometry since t → s.geometry.max_depth ≤ born + n → Rel J o v before t born [] 0 1 → Safe q (search J n v)
  unfolding search
  search_safe zero prev before ps t born since q v pass sq l st be fuel rel =
      table_safe prev before ps t born since pass st be (λ r. ends (m.passed J r Clear))
      (λ seen shown end y i ch x span ey ly rel2 pass2 st2 born2 low saw.
      let tb = start_table s since (legal_before s sq l) (hash s key) t st in
      let le = legal_before s ey ly in
      let k = born_before s span le t tb in
      absurd (deep_enough end le ch i st2 born2 (omega arith))) v q sq l rel
  search_safe (suc n) prev before ps t born since q v pass sq l st be fuel rel =
      table_safe prev before ps t born since pass st be (search J n)
      (λ seen shown end y i ch x span ey ly rel2 pass2 st2 born2 low saw.
      let tb = start_table s since (legal_before s sq l) (hash s key) t st in
      let k = born_before s span (legal_before s ey ly) t tb in
      search_safe n (Some (record { table = t; seen = seen })) (Some (record { table = t; shown = shown })) (refl, saw) ch (i + 1) end y x pass2 ey ly st2 (sym born2) (omega arith) rel2) v q sq l rel
