-- Words that a pass meets: the homes of a key, a pending word, and a word that was pending and is a home since.
use Rattle.std.specs.Prelude.{◌≡◌, ◌≢◌, ℕ, ◌<◌, ◌≤◌, List, ◌∷◌, Option, Some, ◌⊎◌, refl}
use Rattle.std.proofs.Common.{sym, ◌∙◌, ap, subst, inl, inr, arith, ⊎_elim}
use Rattle.std.proofs.lemmas.Bool.{cases_lt}
use Rattle.slot_word.specs.declared.slots.Mark.TheVariants.{Pending, Copied, Moved}
use Rattle.kv_block.specs.Packing.{Pair}
use Rattle.bucket_group.proofs.ExitLaws.{exit-some}
use Rattle.node_words.specs.Addresses.{slot_at}
use Rattle.verb_log.specs.declared.entry.Entry.{Entry}
use Rattle.verb_log.specs.Decoded.{Body, Full, content}
use Rattle.verb_log.specs.Tables.{Past, Before, here, later, word_at, pair_at}
use Rattle.verb_log.proofs.Positions.{Before-trans}
use Rattle.race_laws.specs.Setting.{Setting, hash, places}
use Rattle.race_laws.specs.Standing.{IsTable, header_in, place_in, IsFilling, IsIn}
use Rattle.race_laws.specs.Chains.{IsCandidate, OnChain}
use Rattle.race_laws.specs.Rows.{IsPlace, IsPlacedSwept}
use Rattle.race_laws.specs.Legal.{Meets, Legal}
use Rattle.race_laws.proofs.Positions.{before_total, legal_before, before_never}
use Rattle.race_laws.proofs.Touch.{table_stays}
use Rattle.race_laws.proofs.SoundStep.{sound, packs_later}
use Rattle.race_laws.proofs.Covers.{table_before}
use Rattle.race_laws.proofs.Slots.{standing_named}
use Rattle.race_laws.proofs.Pending.{Origin, pending_between, no_commit}
use Rattle.race_laws.proofs.Passes.{exits_later}
use Rattle.race_laws.proofs.Chain.{born_at, born_before}
use Rattle.race_laws.proofs.Candidates.{word_candidate, finished}
use Rattle.race_laws.proofs.Homes.{parent_of, Stands, as_live, as_copy, Home, Somewhere, Alone}
use Rattle.race_laws.proofs.Tracks.{Shows, live_word, copy_word, pending_word, Track}
use Rattle.race_laws.proofs.Paths.{AllHomes, LastCommit, alone_of, copy_back, gone_left, home_not_above, home_candidate, path}

-- a block in a home, when its slot is seen
home_shows : (s : Setting) (z : Past) (key : List ℕ) (own : Option ℕ) (t p : ℕ) (b : Body) (pr : Pair) → Home s z key t p b pr → Shows s key own z t p
home_shows s z key own t p b pr x = by x.stands
  where
    by : Stands s.geometry z t p b → Shows s key own z t p
    by (as_live w) = live_word b pr (record { stands = w; packs = x.packs }) x.same_key
    by (as_copy w m) = copy_word b pr (record { stands = w; packs = x.packs }) x.same_key m

home_not_pending : (s : Setting) (z : Past) (key : List ℕ) (t p : ℕ) (b c : Body) (pr : Pair) → Home s z key t p b pr → place_in s.geometry z t p ≡ Full Pending c → ⊥
home_not_pending s z key t p b c pr x w = by x.stands
  where
    by : Stands s.geometry z t p b → ⊥
    by (as_live v) = cc
    by (as_copy v m) = cc

-- the home of a key, at this place
pub record HomeIn (s : Setting) (key : List ℕ) (p : ℕ) (z : Past) (t : ℕ) : Type 0 where
  pub body : Body
  pub pair : Pair
  pub home : Home s z key t p body pair

-- the own slot of a pass is pending at each position
abbrev pub OwnPending : Setting → Option ℕ → Past → Past → Type 0
OwnPending s own from to = (z : Past) (a : ℕ) → Before from z → Before z to → own ≡ Some a → (b : Body) × (content (word_at s.geometry z a) ≡ Full Pending b)

-- the homes between two positions are a track
pub home_track : (s : Setting) {from to : Past} → Legal s to → Alone s to → Before from to → (key : List ℕ) (own : Option ℕ) → (all : AllHomes s key from to) → OwnPending s own from to → (t p : ℕ) (b : Body) (pr : Pair) → Home s to key t p b pr → Track s key own from to p (HomeIn s key p)
home_track s {from = from} {to = to} l a ft key own all pend t p b pr top = record {
  place = top.place;
  candidate = (home_candidate s to l key t p b pr top).candidate;
  some = λ z x y. at_place z x y (all z x y);
  chain = λ z v x y w. (home_candidate s z (legal_before s y l) key v p w.body w.pair w.home).chain;
  down = λ y z v w fy yz zt g k. (path s yz (legal_before s zt l) (alone_before zt) key (part y z fy zt) v w p p g.body k.body g.pair k.pair g.home k.home).1;
  not_above = λ z v u x y w c r. home_not_above s z (legal_before s y l) key v p w.body w.pair w.home u c r;
  shows = λ z v x y w. home_shows s z key own v p w.body w.pair w.home;
  back = λ y z v d fy yz zt g k w. (copy_back s yz (legal_before s zt l) (alone_before zt) key (part y z fy zt) v p g.body k.body d g.pair k.pair g.home k.home w).1;
  not_own = λ z v n x y w o q. let z2 = pend z n x y o in home_not_pending s z key v p w.body z2.0 w.pair w.home (ap (λ k. content (word_at s.geometry z k)) q ∙ z2.1);
  own_pending = pend;
}
  where
    alone_before : {z : Past} → Before z to → Alone s z
    alone_before b = alone_of s b a

    part : (y z : Past) → Before from y → Before z to → AllHomes s key y z
    part y z fy zt v c d = all v (Before-trans fy c) (Before-trans d zt)

    at_place : (z : Past) → Before from z → Before z to → Somewhere s z key → (v : ℕ) × HomeIn s key p z v
    at_place z x y w =
        let e = (path s y l a key (λ v c d. all v (Before-trans x c) d) w.table t w.place p w.body b w.pair pr w.home top).0 in
        (w.table, record { body = w.body; pair = w.pair; home = subst (λ v. Home s z key w.table v w.body w.pair) e w.home })

-- a pending word of the key that a commit will find, between two positions
pub record PendingWord (s : Setting) (key : List ℕ) (from to : Past) (t p : ℕ) (b : Body) (pr : Pair) : Type 0 where
  pub table : IsTable s.geometry from t
  pub place : IsPlace s.geometry p
  pub candidate : IsIn p (places s key)
  pub same_key : pr.key ≡ key
  pub stood : (z : Past) → Before from z → Before z to → place_in s.geometry z t p ≡ Full Pending b
  pub packs : (z : Past) → Before from z → Before z to → pair_at s.geometry z b ≡ Some pr
  pub chain : (z : Past) → Before from z → Before z to → OnChain s.geometry z (hash s key) t
  pub not_above : (z : Past) (u : ℕ) → Before from z → Before z to → OnChain s.geometry z (hash s key) u → (IsFilling (header_in s.geometry z u) → ⊥) → born_at s.geometry z u ≤ born_at s.geometry z t

-- the pending word of a commit, from its Place on
pub pending_of : (s : Setting) {from to q : Past} (e : Entry) → Legal s q → Meets s q e → (t p : ℕ) (b : Body) (pr : Pair) → IsTable s.geometry q t → IsPlace s.geometry p → slot_at t p ≡ e.at → content (word_at s.geometry q e.at) ≡ Full Pending b → pair_at s.geometry q b ≡ Some pr → IsPlacedSwept s q e pr → (og : Origin s q e t p b pr) → Before (og.placed ∷ og.before) from → Before from to → Before to q → PendingWord s pr.key from to t p b pr
pending_of s {from = from} {to = to} {q = q} e l m t p b pr h k z o pk sw og pf ft tq = record {
  table = tf;
  place = k;
  candidate = (place_there from here ft).candidate;
  same_key = refl;
  stood = stood;
  packs = packs;
  chain = λ y c d. (place_there y c d).chain;
  not_above = above;
}
  where
    now : place_in s.geometry q t p ≡ Full Pending b
    now = ap (λ v. content (word_at s.geometry q v)) z ∙ o

    tp : IsTable s.geometry (og.placed ∷ og.before) t
    tp = table_stays s.geometry og.before og.placed t t og.table

    tf : IsTable s.geometry from t
    tf = table_before s.geometry pf t t tp

    stood : (y : Past) → Before from y → Before y to → place_in s.geometry y t p ≡ Full Pending b
    stood y c d = pending_between s (Before-trans pf c) (Before-trans d tq) l t p b tp k og.stood now

    legal_y : (y : Past) → Before y to → Legal s y
    legal_y y d = legal_before s (Before-trans d tq) l

    packs : (y : Past) → Before from y → Before y to → pair_at s.geometry y b ≡ Some pr
    packs y c d = sym (packs_later s (Before-trans d tq) l b (standing_named s.geometry y (sound s y (legal_y y d)) t p Pending b (table_before s.geometry c t t tf) k (stood y c d))) ∙ pk

    place_there : (y : Past) → Before from y → Before y to → IsCandidate s y t p pr.key
    place_there y c d = word_candidate s y (legal_y y d) y here t p Pending b pr (table_before s.geometry c t t tf) k (record { stands = stood y c d; packs = packs y c d })

    above : (y : Past) (u : ℕ) → Before from y → Before y to → OnChain s.geometry y (hash s pr.key) u → (IsFilling (header_in s.geometry y u) → ⊥) → born_at s.geometry y u ≤ born_at s.geometry y t
    above y u c d on ripe = ⊎_elim
        (λ (x : born_at s.geometry y t < born_at s.geometry y u).
        let ly = legal_y y d in
        let ty = table_before s.geometry c t t tf in
        let g = gone_left s y ly (hash s pr.key) t u (place_there y c d).chain on ripe x in
        let f = finished s y ly t g.0 p ty (exit-some (hash s pr.key) (born_at s.geometry y t) g.0 g.1).from g.2 k in
        let yq = Before-trans d tq in
        absurd (no_commit s e (Before-trans f.before yq) l m t g.0 p k f.clear b pr z o pk (exits_later s yq l t g.0 pr.key ty g.1) sw))
        (λ (x : born_at s.geometry y u ≤ born_at s.geometry y t). x) (cases_lt (born_at s.geometry y t) (born_at s.geometry y u))

-- a pending word is a track for a sweep of another slot
pub pending_track : (s : Setting) {from to : Past} → Legal s to → Before from to → (key : List ℕ) (own : ℕ) (t p : ℕ) (b : Body) (pr : Pair) → PendingWord s key from to t p b pr → slot_at t p ≢ own → OwnPending s (Some own) from to → Track s key (Some own) from to p (λ z u. u ≡ t)
pending_track s {from = from} {to = to} l ft key own t p b pr w apart pend = record {
  place = w.place;
  candidate = w.candidate;
  some = λ z x y. (t, refl);
  chain = λ z v x y q. subst (OnChain s.geometry z (hash s key)) (sym q) (w.chain z x y);
  down = λ y z v u fy yz zt g k. same y z v u fy yz zt g k;
  not_above = λ z v u x y q c r. subst (λ n. born_at s.geometry z u ≤ born_at s.geometry z n) (sym q) (w.not_above z u x y c r);
  shows = λ z v x y q. pending_word own refl b pr (record { stands = ap (λ n. place_in s.geometry z n p) q ∙ w.stood z x y; packs = w.packs z x y }) w.same_key;
  back = λ y z v d fy yz zt g k m. absurd (by z v d (Before-trans fy yz) zt k m);
  not_own = λ z v n x y q o e. apart (ap (λ k. slot_at k p) (sym q) ∙ e ∙ sym (some_is o));
  own_pending = pend;
}
  where
    some_is : {m n : ℕ} → Some m ≡ Some n → m ≡ n
    some_is h = cc

    same : (y z : Past) (v u : ℕ) → Before from y → Before y z → Before z to → v ≡ t → u ≡ t → born_at s.geometry y v ≤ born_at s.geometry z u
    same y z v u fy yz zt g k =
        let b1 = born_before s yz (legal_before s zt l) t (table_before s.geometry fy t t w.table) in
        let e1 = ap (born_at s.geometry y) g in
        let e2 = ap (born_at s.geometry z) k in
        omega arith

    by : (z : Past) (v : ℕ) (d : Body) → Before from z → Before z to → v ≡ t → place_in s.geometry z v p ≡ Full Copied d → ⊥
    by z v d x y q m = let st = w.stood z x y in let e1 = ap (λ n. place_in s.geometry z n p) q in cc

-- a pending word up to its commit, and its homes from then on
pub data Phase (s : Setting) (key : List ℕ) (past : Past) (entry : Entry) (t p : ℕ) (z : Past) (u : ℕ) : Type 0 where
  early : Before z past → u ≡ t → Phase s key past entry t p z u
  late : Before (entry ∷ past) z → HomeIn s key p z u → Phase s key past entry t p z u

pub mixed_track : (s : Setting) {from to : Past} → Legal s to → Alone s to → (key : List ℕ) (own : ℕ) → (lc : LastCommit s key from to) → PendingWord s key from lc.past lc.table lc.place lc.body lc.pair → OwnPending s (Some own) from to → slot_at lc.table lc.place ≢ own → Track s key (Some own) from to lc.place (Phase s key lc.past lc.entry lc.table lc.place)
mixed_track s {from = from} {to = to} l a key own lc w pend apart = record {
  place = w.place;
  candidate = w.candidate;
  some = λ z x y. some_at z x y (before_total y lc.kept);
  chain = λ z v x y q. chain_at z v x y q;
  down = λ y z v u fy yz zt g k. down_at y z v u fy yz zt g k;
  not_above = λ z v u x y q c r. above_at z v u x y q c r;
  shows = λ z v x y q. shows_at z v x y q;
  back = λ y z v d fy yz zt g k m. back_at y z v d fy yz zt g k m;
  not_own = λ z v n x y q o e. own_at z v n x y q o e;
  own_pending = pend;
}
  where
    q2 : Past
    q2 = lc.past

    alone_before : {z : Past} → Before z to → Alone s z
    alone_before b = alone_of s b a

    kept2 : Before lc.past to
    kept2 = Before-trans (later here) lc.kept

    table_at : (z : Past) → Before from z → IsTable s.geometry z lc.table
    table_at z b = table_before s.geometry b lc.table lc.table w.table

    part : (y z : Past) → Before (lc.entry ∷ lc.past) y → Before z to → AllHomes s key y z
    part y z fy zt v c d = lc.all v (Before-trans fy c) (Before-trans d zt)

    home_at : (z : Past) → Before (lc.entry ∷ lc.past) z → Before z to → Somewhere s z key → (v : ℕ) × Phase s key lc.past lc.entry lc.table lc.place z v
    home_at z x y sw =
        let e = (path s x (legal_before s y l) (alone_before y) key (λ v c d. lc.all v c (Before-trans d y)) lc.table sw.table lc.place sw.place lc.body sw.body lc.home_pair sw.pair lc.home sw.home).0 in
        (sw.table, late x (record { body = sw.body; pair = sw.pair; home = subst (λ v. Home s z key sw.table v sw.body sw.pair) (sym e) sw.home }))

    some_at : (z : Past) → Before from z → Before z to → Before z (lc.entry ∷ lc.past) ⊎ Before (lc.entry ∷ lc.past) z → (v : ℕ) × Phase s key lc.past lc.entry lc.table lc.place z v
    some_at z x y (inl here) = home_at (lc.entry ∷ lc.past) here y (lc.all (lc.entry ∷ lc.past) here y)
    some_at z x y (inl (later c)) = (lc.table, early c refl)
    some_at z x y (inr c) = home_at z c y (lc.all z c y)

    chain_at : (z : Past) (v : ℕ) → Before from z → Before z to → Phase s key lc.past lc.entry lc.table lc.place z v → OnChain s.geometry z (hash s key) v
    chain_at z v x y (early c q) = subst (OnChain s.geometry z (hash s key)) (sym q) (w.chain z x c)
    chain_at z v x y (late c hm) = (home_candidate s z (legal_before s y l) key v lc.place hm.body hm.pair hm.home).chain

    down_at : (y z : Past) (v u : ℕ) → Before from y → Before y z → Before z to → Phase s key lc.past lc.entry lc.table lc.place y v → Phase s key lc.past lc.entry lc.table lc.place z u → born_at s.geometry y v ≤ born_at s.geometry z u
    down_at y z v u fy yz zt (early c q) (early d r) =
        let b1 = born_before s yz (legal_before s zt l) lc.table (table_at y fy) in
        let e1 = ap (born_at s.geometry y) q in let e2 = ap (born_at s.geometry z) r in omega arith
    down_at y z v u fy yz zt (early c q) (late d hm) =
        let b1 = born_before s (later {e = lc.entry} c) (legal_before s lc.kept l) lc.table (table_at y fy) in
        let e1 = ap (born_at s.geometry y) q in
        let pa = (path s d (legal_before s zt l) (alone_before zt) key (λ n c2 d2. lc.all n c2 (Before-trans d2 zt)) lc.table u lc.place lc.place lc.body hm.body lc.home_pair hm.pair lc.home hm.home).1 in
        omega arith
    down_at y z v u fy yz zt (late c hm) (early d r) = absurd (before_never (Before-trans c (Before-trans yz d)))
    down_at y z v u fy yz zt (late c hm) (late d hn) = (path s yz (legal_before s zt l) (alone_before zt) key (part y z c zt) v u lc.place lc.place hm.body hn.body hm.pair hn.pair hm.home hn.home).1

    above_at : (z : Past) (v u : ℕ) → Before from z → Before z to → Phase s key lc.past lc.entry lc.table lc.place z v → OnChain s.geometry z (hash s key) u → (IsFilling (header_in s.geometry z u) → ⊥) → born_at s.geometry z u ≤ born_at s.geometry z v
    above_at z v u x y (early c q) on r = subst (λ n. born_at s.geometry z u ≤ born_at s.geometry z n) (sym q) (w.not_above z u x c on r)
    above_at z v u x y (late c hm) on r = home_not_above s z (legal_before s y l) key v lc.place hm.body hm.pair hm.home u on r

    shows_at : (z : Past) (v : ℕ) → Before from z → Before z to → Phase s key lc.past lc.entry lc.table lc.place z v → Shows s key (Some own) z v lc.place
    shows_at z v x y (early c q) = pending_word own refl lc.body lc.pair (record { stands = ap (λ n. place_in s.geometry z n lc.place) q ∙ w.stood z x c; packs = w.packs z x c }) w.same_key
    shows_at z v x y (late c hm) = home_shows s z key (Some own) v lc.place hm.body hm.pair hm.home

    back_at : (y z : Past) (v : ℕ) (d : Body) → Before from y → Before y z → Before z to → Phase s key lc.past lc.entry lc.table lc.place y v → Phase s key lc.past lc.entry lc.table lc.place z v → place_in s.geometry z v lc.place ≡ Full Copied d → place_in s.geometry y (parent_of s.geometry y v) lc.place ≡ Full Moved d
    back_at y z v d fy yz zt g (early c q) m = let st = w.stood z (Before-trans fy yz) c in let e1 = ap (λ n. place_in s.geometry z n lc.place) q in absurd (cc)
    back_at y z v d fy yz zt (early c q) (late c2 hm) m =
        let hm2 = subst (λ n. Home s z key n lc.place hm.body hm.pair) q hm.home in
        let m2 = ap (λ n. place_in s.geometry z n lc.place) (sym q) ∙ m in
        let cb = (copy_back s c2 (legal_before s zt l) (alone_before zt) key (λ n c3 d3. lc.all n c3 (Before-trans d3 zt)) lc.table lc.place lc.body hm.body d lc.home_pair hm.pair lc.home hm2 m2).0 in
        let nw = lc.now in
        absurd (cc)
    back_at y z v d fy yz zt (late c hm) (late c2 hn) m = (copy_back s yz (legal_before s zt l) (alone_before zt) key (part y z c zt) v lc.place hm.body hn.body d hm.pair hn.pair hm.home hn.home m).1

    some_is : {m n : ℕ} → Some m ≡ Some n → m ≡ n
    some_is h = cc

    own_at : (z : Past) (v n : ℕ) → Before from z → Before z to → Phase s key lc.past lc.entry lc.table lc.place z v → Some own ≡ Some n → slot_at v lc.place ≢ n
    own_at z v n x y (early c q) o e = apart (ap (λ k. slot_at k lc.place) (sym q) ∙ e ∙ sym (some_is o))
    own_at z v n x y (late c hm) o e =
        let pd = pend z n x y o in
        home_not_pending s z key v lc.place hm.body pd.0 hm.pair hm.home (ap (λ k. content (word_at s.geometry z k)) e ∙ pd.1)
