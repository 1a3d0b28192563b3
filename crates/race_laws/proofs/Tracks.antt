-- A pass that shows no word of a key, down to a table in which the key stays, meets every word of the key that goes down
-- the chain meanwhile: so there is none.
use Rattle.std.specs.Prelude.{◌≡◌, ◌≢◌, ℕ, ◌<◌, ◌≤◌, Bool, true, false, cond, List, [], ◌∷◌, map, filter, Option, Some, None, ◌⊎◌, refl}
use Rattle.std.proofs.Common.{sym, ◌∙◌, ap, subst, inl, inr, arith, ⊎_elim}
use Rattle.std.proofs.lemmas.Bool.Decides.{nat_tests}
use Rattle.slot_word.specs.declared.slots.Mark.{Mark}
use Rattle.slot_word.specs.declared.slots.Mark.TheVariants.{Live, Pending, Copied, Moved}
use Rattle.kv_block.specs.Packing.{Pair}
use Rattle.bucket_group.specs.ExitLevel.{exit_level}
use Rattle.bucket_group.proofs.ExitLaws.{exit-below}
use Rattle.node_words.specs.Addresses.{slot_at}
use Rattle.verb_log.specs.Decoded.{Body, Full, content}
use Rattle.verb_log.specs.Tables.{Past, Before, here, word_at}
use Rattle.verb_log.proofs.Positions.{Before-trans}
use Rattle.race_laws.specs.Setting.{Setting, hash, places}
use Rattle.race_laws.specs.Standing.{IsTable, header_in, child_in, place_in, IsFilling, Exits, Word, IsIn}
use Rattle.race_laws.specs.Chains.{OnChain}
use Rattle.race_laws.specs.Looks.{Reading, Searched, Between, InOrder, Answers, IsMiss, AllMiss, is_other, read_places, Misses, Passing, begins, goes_on, PassedBy}
use Rattle.race_laws.specs.Rows.{IsPlace}
use Rattle.race_laws.specs.Legal.{Legal}
use Rattle.race_laws.proofs.Positions.{legal_before}
use Rattle.race_laws.proofs.Touch.{same_or_not}
use Rattle.race_laws.proofs.Covers.{table_before}
use Rattle.race_laws.proofs.Frames.{child_before}
use Rattle.race_laws.proofs.Finality.{ripe_before}
use Rattle.race_laws.proofs.Opening.{splits}
use Rattle.race_laws.proofs.Passes.{between_span, passing_span, key_gone}
use Rattle.race_laws.proofs.Clear.{copy_fills}
use Rattle.race_laws.proofs.Chain.{born_at, born_before, chain_table, chain_same, chain_before, way_down, further_born}
use Rattle.race_laws.proofs.Homes.{parent_of}

-- what a place shows of a key
pub data Shows (s : Setting) (key : List ℕ) (own : Option ℕ) (z : Past) (t p : ℕ) : Type 0 where
  live_word : (b : Body) (q : Pair) → Word s.geometry z Live t p b q → q.key ≡ key → Shows s key own z t p
  copy_word : (b : Body) (q : Pair) → Word s.geometry z Copied t p b q → q.key ≡ key → place_in s.geometry z (parent_of s.geometry z t) p ≡ Full Moved b → Shows s key own z t p
  pending_word : (a : ℕ) → own ≡ Some a → (b : Body) (q : Pair) → Word s.geometry z Pending t p b q → q.key ≡ key → Shows s key own z t p

-- a word of the key that keeps its place and goes down the chain, between two positions
pub record Track (s : Setting) (key : List ℕ) (own : Option ℕ) (from to : Past) (p : ℕ) (At : Past → ℕ → Type 0) : Type 0 where
  pub place : IsPlace s.geometry p
  pub candidate : IsIn p (places s key)
  pub some : (z : Past) → Before from z → Before z to → (t : ℕ) × At z t
  pub chain : (z : Past) (t : ℕ) → Before from z → Before z to → At z t → OnChain s.geometry z (hash s key) t
  pub down : (y z : Past) (t u : ℕ) → Before from y → Before y z → Before z to → At y t → At z u → born_at s.geometry y t ≤ born_at s.geometry z u
  pub not_above : (z : Past) (t u : ℕ) → Before from z → Before z to → At z t → OnChain s.geometry z (hash s key) u → (IsFilling (header_in s.geometry z u) → ⊥) → born_at s.geometry z u ≤ born_at s.geometry z t
  pub shows : (z : Past) (t : ℕ) → Before from z → Before z to → At z t → Shows s key own z t p
  pub back : (y z : Past) (t : ℕ) (b : Body) → Before from y → Before y z → Before z to → At y t → At z t → place_in s.geometry z t p ≡ Full Copied b → place_in s.geometry y (parent_of s.geometry y t) p ≡ Full Moved b
  pub not_own : (z : Past) (t a : ℕ) → Before from z → Before z to → At z t → own ≡ Some a → slot_at t p ≢ a
  pub own_pending : (z : Past) (a : ℕ) → Before from z → Before z to → own ≡ Some a → (b : Body) × (content (word_at s.geometry z a) ≡ Full Pending b)

-- what stands in a list stands in what a test leaves of it
IsIn-filter : (f : ℕ → Bool) (p : ℕ) (xs : List ℕ) → IsIn p xs → f p ≡ true → IsIn p (filter f xs)
IsIn-filter f p [] h k = h
IsIn-filter f p (x ∷ xs) h k = by (f x) refl (λ q. IsIn-filter f p xs q k)
  where
    kept : f x ≡ true → filter f (x ∷ xs) ≡ x ∷ filter f xs
    kept e = ap (λ y. cond y (x ∷ filter f xs) (filter f xs)) e

    dropped : f x ≡ false → filter f (x ∷ xs) ≡ filter f xs
    dropped e = ap (λ y. cond y (x ∷ filter f xs) (filter f xs)) e

    by : (y : Bool) → f x ≡ y → (IsIn p xs → IsIn p (filter f xs)) → IsIn p (filter f (x ∷ xs))
    by true e ih = subst (IsIn p) (sym (kept e)) (⊎_elim (λ (q : p ≡ x). inl q) (λ (q : IsIn p xs). inr (ih q)) h)
    by false e ih = subst (IsIn p) (sym (dropped e)) (⊎_elim (λ (q : p ≡ x). let z = ap f q in absurd (cc)) (λ (q : IsIn p xs). ih q) h)

pub reading_of : (p : ℕ) (seen : List Reading) → IsIn p (map (λ (r : Reading). r.place) seen) → (r : Reading) × IsIn r seen × (r.place ≡ p)
reading_of p [] h = absurd h
reading_of p (x ∷ xs) h = ⊎_elim (λ (q : p ≡ x.place). (x, inl refl, sym q)) (λ (q : IsIn p (map (λ (r : Reading). r.place) xs)). let y = reading_of p xs q in (y.0, inr y.1, y.2)) h

pub reading_stands : (from : Past) (seen : List Reading) (to : Past) → Between from seen to → (r : Reading) → IsIn r seen → Before from r.at × Before r.at to
reading_stands from [] to h r k = absurd k
reading_stands from (x ∷ xs) to h r k = ⊎_elim (λ (q : r ≡ x). subst (λ (v : Reading). Before from v.at × Before v.at to) (sym q) (h.0, h.1)) (λ (q : IsIn r xs). reading_stands from xs to h.2 r q) k

pub reading_misses : (s : Setting) (key : List ℕ) (own : Option ℕ) (prev : Option Searched) (t : ℕ) (seen : List Reading) → AllMiss s key own prev t seen → (r : Reading) → IsIn r seen → IsMiss s key own prev t r
reading_misses s key own prev t [] h r k = absurd k
reading_misses s key own prev t (x ∷ xs) h r k = ⊎_elim (λ (q : r ≡ x). subst (IsMiss s key own prev t) (sym q) h.0) (λ (q : IsIn r xs). reading_misses s key own prev t xs h.1 r q) k

-- a place is the own slot, or it is read
pub own_or_other : (own : Option ℕ) (t p : ℕ) → (own ≡ Some (slot_at t p)) ⊎ (is_other own t p ≡ true)
own_or_other None t p = inr refl
own_or_other (Some a) t p = ⊎_elim (λ (q : slot_at t p ≡ a). inl (ap (λ v. Some v) (sym q))) (λ (q : slot_at t p ≢ a). inr (grind (arith, nat_tests))) (same_or_not (slot_at t p) a)

-- in-order readings stand between
pub in_order_between : (from : Past) (seen : List Reading) (to : Past) → InOrder from seen to → Between from seen to
in_order_between from [] to h = h
in_order_between from (r ∷ rs) to h =
    let rest = in_order_between r.at rs to h.1 in
    (h.0, between_span r.at rs to rest, wider from r.at rs to h.0 rest)
  where
    wider : (a b : Past) (xs : List Reading) (to : Past) → Before a b → Between b xs to → Between a xs to
    wider a b [] to h k = Before-trans h k
    wider a b (x ∷ xs) to h k = (Before-trans h k.0, k.1, wider a b xs to h k.2)

pub in_order_passing : (s : Setting) (key : List ℕ) (own : Option ℕ) (from : Past) (prev : Option Searched) (t : ℕ) (since : Past) → Passing InOrder s key own from prev t since → Passing Between s key own from prev t since
in_order_passing s key own from prev t since (begins u at b c f) = begins u at b c f
in_order_passing s key own from prev t since (goes_on v u since2 end seen i c k m ex gone ch n) =
    goes_on v u since2 end seen i c (in_order_passing s key own from v u since2 k) (record { stand = in_order_between since2 seen end m.stand; whole = m.whole; miss = m.miss }) ex gone ch n

pub in_order_passed : (s : Setting) (log from : Past) (key : List ℕ) (own : Option ℕ) → PassedBy InOrder s log from key own → PassedBy Between s log from key own
in_order_passed s log from key own w = record {
  prev = w.prev;
  table = w.table;
  since = w.since;
  passing = in_order_passing s key own from w.prev w.table w.since w.passing;
  seen = w.seen;
  end = w.end;
  misses = record { stand = in_order_between w.since w.seen w.end w.misses.stand; whole = w.misses.whole; miss = w.misses.miss };
  up_to = w.up_to;
  stays = w.stays;
  has_own = w.has_own;
}

module _ (s : Setting) (key : List ℕ) (own : Option ℕ) (from to : Past) (lt : Legal s to) (p : ℕ) (At : Past → ℕ → Type 0) (tr : Track s key own from to p At) where
  abbrev pub h : ℕ
  h = hash s key

  legal_at : (z : Past) → Before z to → Legal s z
  legal_at z b = legal_before s b lt

  -- the word stands strictly below the table
  abbrev pub Below : Past → ℕ → Type 0
  Below z t = (u : ℕ) → At z u → born_at s.geometry z t < born_at s.geometry z u

  -- what is known of the table before: the reading of the place, with the word strictly below; or its place is the own slot
  pub record Before_it (x : Searched) (t : ℕ) (since : Past) : Type 0 where
    pub level : ℕ
    pub exits : exit_level (hash s key) (born_at s.geometry since x.table) ≡ Some level
    pub child : child_in s.geometry since x.table level ≡ t
    pub some : t ≢ 0
    pub on : OnChain s.geometry since (hash s key) x.table
    pub read : (own ≡ Some (slot_at x.table p)) ⊎ ((r : Reading) × IsIn r x.seen × (r.place ≡ p) × Before from r.at × Before r.at since × OnChain s.geometry r.at (hash s key) x.table × Below r.at x.table)

  abbrev pub PrevOk : Option Searched → ℕ → Past → Type 0
  PrevOk None t since = IsFilling (header_in s.geometry since t) → ⊥
  PrevOk (Some x) t since = Before_it x t since

  pub record Here (prev : Option Searched) (t : ℕ) (since : Past) : Type 0 where
    pub on : OnChain s.geometry since (hash s key) t
    pub upto : (u : ℕ) → At since u → born_at s.geometry since t ≤ born_at s.geometry since u
    pub prev_ok : PrevOk prev t since

  span_to : (z y : Past) → Before z y → Before y to → Before z to
  span_to z y a b = Before-trans a b

  -- a table on the chain at one position is on it later, with the same birth depth
  chain_on : (y z : Past) (t : ℕ) → Before y z → Before z to → OnChain s.geometry y h t → OnChain s.geometry z h t
  chain_on y z t a b c = chain_before s a (legal_at z b) h t c

  born_same : (y z : Past) (t : ℕ) → Before y z → Before z to → OnChain s.geometry y h t → born_at s.geometry z t ≡ born_at s.geometry y t
  born_same y z t a b c = born_before s a (legal_at z b) t (chain_table s y (legal_at y (Before-trans a b)) h t c)

  -- where the word stands at a table's own position, its table is that one
  at_same : (z : Past) (t u : ℕ) → Before from z → Before z to → OnChain s.geometry z h t → At z u → born_at s.geometry z t ≡ born_at s.geometry z u → At z t
  at_same z t u a b c x e = subst (At z) (sym (chain_same s z (legal_at z b) h t u c (tr.chain z u a b x) e)) x

  -- a key exits a table at one level
  exit_one : {o : Option ℕ} {i j : ℕ} → o ≡ Some i → o ≡ Some j → i ≡ j
  exit_one x y = cc

  -- in the table itself the word is not shown moved away: the copy answers
  answers : (prev : Option Searched) (t : ℕ) (since z : Past) (b : Body) → Before from since → Before since z → Before z to → Here prev t since → At z t → place_in s.geometry z t p ≡ Full Copied b → place_in s.geometry z (parent_of s.geometry z t) p ≡ Full Moved b → IsTable s.geometry z t → Answers s prev p b
  answers None t since z b fs sz zt hr x w mo tb =
      absurd (ripe_before s sz (legal_at z zt) t (chain_table s since (legal_at since (Before-trans sz zt)) h t hr.on) hr.prev_ok (copy_fills s z (legal_at z zt) t p b tb tr.place w))
  answers (Some q) t since z b fs sz zt hr x w mo tb = ⊎_elim (λ (y : own ≡ Some (slot_at q.table p)). absurd (own_case y)) (λ y. (y.0, y.1, y.2, read_case y.0 y.3 y.4 y.5 y.6)) hr.prev_ok.read
    where
      lz : Legal s z
      lz = legal_at z zt

      st : Before since to
      st = Before-trans sz zt

      ls : Legal s since
      ls = legal_at since st

      ok : Before_it q t since
      ok = hr.prev_ok

      qt : IsTable s.geometry since q.table
      qt = chain_table s since ls h q.table ok.on

      small : ok.level < 16
      small = exit-below h (born_at s.geometry since q.table) ok.level ok.exits

      parent_is : parent_of s.geometry z t ≡ q.table
      parent_is =
          let set : child_in s.geometry since q.table ok.level ≢ 0 = λ v. ok.some (sym ok.child ∙ v) in
          let ch = child_before s sz lz q.table ok.level qt small set ∙ ok.child in
          ((splits s z lz).born q.table ok.level t (table_before s.geometry sz q.table q.table qt) small ch ok.some).parent

      own_case : own ≡ Some (slot_at q.table p) → ⊥
      own_case y =
          let pend = tr.own_pending z (slot_at q.table p) (Before-trans fs sz) zt y in
          let mv = ap (λ v. place_in s.geometry z v p) (sym parent_is) ∙ mo in
          let pd = pend.1 in
          cc

      read_case : (r : Reading) → Before from r.at → Before r.at since → OnChain s.geometry r.at h q.table → Below r.at q.table → place_in s.geometry r.at q.table p ≡ Full Moved b
      read_case r fr rs on below =
          let rt = Before-trans rs st in
          let lr = legal_at r.at rt in
          let u = tr.some r.at fr rt in
          let wd = way_down s r.at lr h q.table u.0 on (tr.chain r.at u.0 fr rt u.1) (below u.0 u.1) in
          let f = wd.1 in
          let qtr = chain_table s r.at lr h q.table on in
          let bq = born_before s rs ls q.table qtr in
          let lev : f.level ≡ ok.level = exit_one f.exits (ap (exit_level h) (sym bq) ∙ ok.exits) in
          let fset : child_in s.geometry r.at q.table f.level ≢ 0 = λ v. f.some (sym f.child ∙ v) in
          let chn = child_before s rs ls q.table f.level qtr (exit-below h (born_at s.geometry r.at q.table) f.level f.exits) fset ∙ f.child in
          let ct : wd.0 ≡ t = sym chn ∙ ap (child_in s.geometry since q.table) lev ∙ ok.child in
          let on_t : OnChain s.geometry r.at h t = subst (OnChain s.geometry r.at h) ct wd.2 in
          let low : born_at s.geometry r.at t ≤ born_at s.geometry r.at u.0 = subst (λ v. born_at s.geometry r.at v ≤ born_at s.geometry r.at u.0) ct wd.3 in
          let rz = Before-trans rs sz in
          let high = tr.down r.at z u.0 t fr rz zt u.1 x in
          let bt = born_same r.at z t rz zt on_t in
          let at_r = at_same r.at t u.0 fr rt on_t u.1 (omega arith) in
          let mv = tr.back r.at z t b fr rz zt at_r x w in
          let par : parent_of s.geometry r.at t ≡ q.table = ap (parent_of s.geometry r.at) (sym ct) ∙ (further_born s r.at lr h q.table wd.0 qtr f).parent in
          ap (λ v. place_in s.geometry r.at v p) (sym par) ∙ mv

  -- a miss at the place of the word, in its table, is none
  missed : (prev : Option Searched) (t : ℕ) (since : Past) (r : Reading) → Before from since → Before since r.at → Before r.at to → Here prev t since → r.place ≡ p → IsMiss s key own prev t r → At r.at t → ⊥
  missed prev t since r fs sr rt hr e miss x = by (tr.shows r.at t (Before-trans fs sr) rt x)
    where
      at_place : (m : Mark) (b : Body) (q : Pair) → Word s.geometry r.at m t p b q → Word s.geometry r.at m t r.place b q
      at_place m b q w = subst (λ v. Word s.geometry r.at m t v b q) (sym e) w

      by : Shows s key own r.at t p → ⊥
      by (live_word b q w k) = miss.live b q (at_place Live b q w) k
      by (copy_word b q w k mo) =
          let tb = chain_table s r.at (legal_at r.at rt) h t (tr.chain r.at t (Before-trans fs sr) rt x) in
          miss.copied b q (at_place Copied b q w) k (subst (λ v. Answers s prev v b) (sym e) (answers prev t since r.at b fs sr rt hr x w.stands mo tb))
      by (pending_word a o b q w k) = miss.pending a o b q (at_place Pending b q w) k

  -- where the place of a table was read, the word is strictly below from then on
  read_below : (prev : Option Searched) (t : ℕ) (since : Past) (r : Reading) → Before from since → Before since r.at → Before r.at to → Here prev t since → r.place ≡ p → IsMiss s key own prev t r → Below r.at t
  read_below prev t since r fs sr rt hr e miss u x =
      let s0 = tr.some since fs (Before-trans sr rt) in
      let low = hr.upto s0.0 s0.1 in
      let d = tr.down since r.at s0.0 u fs sr rt s0.1 x in
      let bt = born_same since r.at t sr rt hr.on in
      ⊎_elim (λ (q : born_at s.geometry r.at t ≡ born_at s.geometry r.at u). absurd (missed prev t since r fs sr rt hr e miss (at_same r.at t u (Before-trans fs sr) rt (chain_on since r.at t sr rt hr.on) x q)))
      (λ (q : born_at s.geometry r.at t ≢ born_at s.geometry r.at u). omega arith) (same_or_not (born_at s.geometry r.at t) (born_at s.geometry r.at u))

  -- where the place of a table is the own slot, the word is strictly below all the time
  own_below : (prev : Option Searched) (t : ℕ) (since z : Past) → Before from since → Before since z → Before z to → Here prev t since → own ≡ Some (slot_at t p) → Below z t
  own_below prev t since z fs sz zt hr o u x =
      let s0 = tr.some since fs (Before-trans sz zt) in
      let low = hr.upto s0.0 s0.1 in
      let d = tr.down since z s0.0 u fs sz zt s0.1 x in
      let bt = born_same since z t sz zt hr.on in
      ⊎_elim (λ (q : born_at s.geometry z t ≡ born_at s.geometry z u). absurd (tr.not_own z t (slot_at t p) (Before-trans fs sz) zt (at_same z t u (Before-trans fs sz) zt (chain_on since z t sz zt hr.on) x q) o refl))
      (λ (q : born_at s.geometry z t ≢ born_at s.geometry z u). omega arith) (same_or_not (born_at s.geometry z t) (born_at s.geometry z u))

  -- strictly below later too
  below_later : (y z : Past) (t : ℕ) → Before from y → Before y z → Before z to → OnChain s.geometry y h t → Below y t → Below z t
  below_later y z t fy yz zt on b u x =
      let s0 = tr.some y fy (Before-trans yz zt) in
      let l0 = b s0.0 s0.1 in
      let d = tr.down y z s0.0 u fy yz zt s0.1 x in
      let bt = born_same y z t yz zt on in
      omega arith

  -- what a table's readings leave: the word strictly below at their end, and what the next table needs of it
  pub record Done (t : ℕ) (seen : List Reading) (since end : Past) : Type 0 where
    pub below : Below end t
    pub read : (own ≡ Some (slot_at t p)) ⊎ ((r : Reading) × IsIn r seen × (r.place ≡ p) × Before from r.at × Before r.at end × OnChain s.geometry r.at h t × Below r.at t)

  done : (prev : Option Searched) (t : ℕ) (since end : Past) (seen : List Reading) → Before from since → Before since end → Before end to → Here prev t since → Misses Between s key own prev t seen since end → Done t seen since end
  done prev t since end seen fs se et hr m = ⊎_elim
      (λ (o : own ≡ Some (slot_at t p)). record { below = own_below prev t since end fs se et hr o; read = inl o })
      (λ (o : is_other own t p ≡ true).
      let among : IsIn p (read_places s key own t) = IsIn-filter (is_other own t) p (places s key) tr.candidate o in
      let r = reading_of p seen (subst (IsIn p) (sym m.whole) among) in
      let st = reading_stands since seen end m.stand r.0 r.1 in
      let rt = Before-trans st.1 et in
      let b = read_below prev t since r.0 fs st.0 rt hr r.2 (reading_misses s key own prev t seen m.miss r.0 r.1) in
      let on = chain_on since r.0.at t st.0 rt hr.on in
      let fr = Before-trans fs st.0 in
      record { below = below_later r.0.at end t fr st.1 et on b; read = inr (r.0, r.1, r.2, fr, st.1, on, b) })
      (own_or_other own t p)

  -- down the tables of the pass
  pub here_at : (prev : Option Searched) (t : ℕ) (since : Past) → Passing Between s key own from prev t since → Before since to → Here prev t since
  here_at prev t since (begins u at b c f) st = record { on = c; upto = λ v x. tr.not_above at v u b st x c f; prev_ok = f }
  here_at prev t since (goes_on v u since2 end seen i c k m ex gone ch n) st =
      let se = between_span since2 seen end m.stand in
      let fs = passing_span Between between_span s key own from v u since2 k in
      let hr = here_at v u since2 k (Before-trans se st) in
      let dn = done v u since2 end seen fs se st hr m in
      let fe = Before-trans fs se in
      let on = chain_on since2 end u se st hr.on in
      let le = legal_at end st in
      let w0 = tr.some end fe st in
      record {
        on = (next end u i c fe st on ex ch w0.0 w0.1 (dn.below w0.0 w0.1)).0;
        upto = λ w x. (next end u i c fe st on ex ch w x (dn.below w x)).1;
        prev_ok = record { level = i; exits = ex; child = ch; some = n; on = on; read = dn.read };
      }
    where
      next : (end : Past) (u i c : ℕ) → Before from end → Before end to → OnChain s.geometry end h u → Exits s end u key i → child_in s.geometry end u i ≡ c → (w : ℕ) → At end w → born_at s.geometry end u < born_at s.geometry end w → OnChain s.geometry end h c × (born_at s.geometry end c ≤ born_at s.geometry end w)
      next end u i c fe st on ex ch w x b =
          let wd = way_down s end (legal_at end st) h u w on (tr.chain end w fe st x) b in
          let same : wd.0 ≡ c = sym wd.1.child ∙ ap (child_in s.geometry end u) (exit_one wd.1.exits ex) ∙ ch in
          (subst (OnChain s.geometry end h) same wd.2, subst (λ v. born_at s.geometry end v ≤ born_at s.geometry end w) same wd.3)

  -- such a pass has no end
  pub no_pass : PassedBy Between s to from key own → ⊥
  no_pass w =
      let se = between_span w.since w.seen w.end w.misses.stand in
      let fs = passing_span Between between_span s key own from w.prev w.table w.since w.passing in
      let hr = here_at w.prev w.table w.since w.passing (Before-trans se w.up_to) in
      let dn = done w.prev w.table w.since w.end w.seen fs se w.up_to hr w.misses in
      let fe = Before-trans fs se in
      let le = legal_at w.end w.up_to in
      let on = chain_on w.since w.end w.table se w.up_to hr.on in
      let u = tr.some w.end fe w.up_to in
      let wd = way_down s w.end le h w.table u.0 on (tr.chain w.end u.0 fe w.up_to u.1) (dn.below u.0 u.1) in
      w.stays wd.1.level wd.1.exits (key_gone s here le w.table wd.1.level key (chain_table s w.end le h w.table on) wd.1.gone)
