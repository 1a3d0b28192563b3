-- Where a home goes between two positions: it keeps its place and goes down alone, since the last commit of its key.
use Rattle.std.specs.Prelude.{◌≡◌, ◌≢◌, ℕ, ◌<◌, ◌≤◌, List, ◌∷◌, Some, ◌⊎◌, refl}
use Rattle.std.proofs.Common.{sym, ◌∙◌, ap, subst, inl, inr, arith, ⊎_elim}
use Rattle.std.proofs.lemmas.Bool.{cases_lt}
use Rattle.slot_word.specs.declared.slots.Mark.TheVariants.{Live, Pending, Copied, Moved}
use Rattle.slot_word.specs.declared.births.Birth.{Birth}
use Rattle.kv_block.specs.Packing.{Pair}
use Rattle.bucket_group.specs.ExitLevel.{exit_level}
use Rattle.bucket_group.proofs.ExitLaws.{exit-some, exit-below}
use Rattle.node_words.specs.Addresses.{slot_at}
use Rattle.verb_log.specs.declared.entry.Entry.{Entry}
use Rattle.verb_log.specs.Decoded.{Body, Full, content, Header, PlainAt, SplittingAt, FillingAt, NoHeader}
use Rattle.verb_log.specs.Tables.{Past, Before, here, later, word_at, pair_at}
use Rattle.race_laws.specs.Setting.{Setting, hash}
use Rattle.race_laws.specs.Standing.{IsTable, header_in, child_in, place_in, depth, IsFilling, IsGone, Exits}
use Rattle.race_laws.specs.Chains.{IsCandidate, OnChain}
use Rattle.race_laws.specs.Rows.{IsPlace, CommitRow}
use Rattle.race_laws.specs.Legal.{Legal}
use Rattle.race_laws.proofs.Positions.{before_same}
use Rattle.race_laws.proofs.Touch.{same_or_not}
use Rattle.race_laws.proofs.Sound.{table_some}
use Rattle.race_laws.proofs.SoundStep.{sound}
use Rattle.race_laws.proofs.Slots.{full_same}
use Rattle.race_laws.proofs.Frames.{birth_kept}
use Rattle.race_laws.proofs.TablesStep.{filling_depth}
use Rattle.race_laws.proofs.Opening.{splits}
use Rattle.race_laws.proofs.Clear.{copy_fills}
use Rattle.race_laws.proofs.Chain.{born_at, born_before, Further, chain_table, chain_same, way_down, further_born, filling_last}
use Rattle.race_laws.proofs.Candidates.{word_candidate, not_left}
use Rattle.race_laws.proofs.Homes.{parent_of, Stands, as_live, as_copy, Home, Somewhere, Was, there, flipped, committed, was, Alone, one_home}

-- a key gone from a table with a further table that does not fill has left it
pub gone_left : (s : Setting) (z : Past) → Legal s z → (h t u : ℕ) → OnChain s.geometry z h t → OnChain s.geometry z h u → (IsFilling (header_in s.geometry z u) → ⊥) → born_at s.geometry z t < born_at s.geometry z u → (i : ℕ) × (exit_level h (born_at s.geometry z t) ≡ Some i) × (i < depth (header_in s.geometry z t))
gone_left s z l h t u c d ripe b =
    let w = way_down s z l h t u c d b in
    let f = w.1 in
    let tb = chain_table s z l h t c in
    (f.level, f.exits, by (header_in s.geometry z t) refl w.0 f w.2 w.3 tb)
  where
    splitting : (c2 : ℕ) (f : Further s.geometry z h t c2) → OnChain s.geometry z h c2 → born_at s.geometry z c2 ≤ born_at s.geometry z u → IsTable s.geometry z t → (f.level < depth (header_in s.geometry z t) → ⊥) → ⊥
    splitting c2 f on low tb x =
        let small = exit-below h (born_at s.geometry z t) f.level f.exits in
        let fills = (splits s z l).fills t f.level c2 tb small f.child f.some x in
        let cb = (further_born s z l h t c2 tb f).table in
        ⊎_elim (λ (q : born_at s.geometry z c2 ≡ born_at s.geometry z u). ripe (subst (λ v. IsFilling (header_in s.geometry z v)) (chain_one c2 on q) fills))
        (λ (q : born_at s.geometry z c2 ≢ born_at s.geometry z u). let y = way_down s z l h c2 u on d (omega arith) in filling_last s z l h c2 y.0 cb fills y.1)
        (same_or_not (born_at s.geometry z c2) (born_at s.geometry z u))
      where
        chain_one : (c3 : ℕ) → OnChain s.geometry z h c3 → born_at s.geometry z c3 ≡ born_at s.geometry z u → c3 ≡ u
        chain_one c3 on2 q = chain_same s z l h c3 u on2 d q

    by : (hd : Header) → header_in s.geometry z t ≡ hd → (c2 : ℕ) (f : Further s.geometry z h t c2) → OnChain s.geometry z h c2 → born_at s.geometry z c2 ≤ born_at s.geometry z u → IsTable s.geometry z t → f.level < depth (header_in s.geometry z t)
    by (PlainAt k) e c2 f on low tb = let x = ap depth e in let y : f.level < k = subst (λ v. IsGone v f.level) e f.gone in omega arith
    by (SplittingAt k) e c2 f on low tb =
        let x = ap depth e in
        let y : f.level ≤ k = subst (λ v. IsGone v f.level) e f.gone in
        ⊎_elim (λ (q : f.level ≡ k). absurd (splitting c2 f on low tb (λ v. omega arith))) (λ (q : f.level ≢ k). omega arith) (same_or_not f.level k)
    by (FillingAt k) e c2 f on low tb = let x = ap depth e in let y : f.level < k = subst (λ v. IsGone v f.level) e f.gone in omega arith
    by NoHeader e c2 f on low tb = absurd (subst (λ v. IsGone v f.level) e f.gone)

-- the place_there of a home
pub home_candidate : (s : Setting) (q : Past) → Legal s q → (key : List ℕ) (t p : ℕ) (b : Body) (pr : Pair) → Home s q key t p b pr → IsCandidate s q t p key
home_candidate s q l key t p b pr x = subst (IsCandidate s q t p) x.same_key (by x.stands)
  where
    by : Stands s.geometry q t p b → IsCandidate s q t p pr.key
    by (as_live w) = word_candidate s q l q here t p Live b pr x.table x.place (record { stands = w; packs = x.packs })
    by (as_copy w m) = word_candidate s q l q here t p Copied b pr x.table x.place (record { stands = w; packs = x.packs })

-- a home is not above a table of the chain that does not fill
pub home_not_above : (s : Setting) (q : Past) → Legal s q → (key : List ℕ) (t p : ℕ) (b : Body) (pr : Pair) → Home s q key t p b pr → (u : ℕ) → OnChain s.geometry q (hash s key) u → (IsFilling (header_in s.geometry q u) → ⊥) → born_at s.geometry q u ≤ born_at s.geometry q t
home_not_above s q l key t p b pr x u c ripe = by_order (place_there.chain)
  where
    place_there : IsCandidate s q t p key
    place_there = home_candidate s q l key t p b pr x

    left : (i : ℕ) → exit_level (hash s key) (born_at s.geometry q t) ≡ Some i → i < depth (header_in s.geometry q t) → Stands s.geometry q t p b → ⊥
    left i ex lo (as_live w) = not_left s q l Live t p i b pr x.table x.place (record { stands = w; packs = x.packs }) (inl refl) (subst (λ v. Exits s q t v i) (sym x.same_key) ex) lo
    left i ex lo (as_copy w m) =
        let f = copy_fills s q l t p b x.table x.place w in
        let fd = (splits s q l).first t (depth (header_in s.geometry q t)) x.table (filling_depth (header_in s.geometry q t) f) in
        let low = (exit-some (hash s key) (born_at s.geometry q t) i ex).from in
        omega arith

    by_order : OnChain s.geometry q (hash s key) t → born_at s.geometry q u ≤ born_at s.geometry q t
    by_order on = ⊎_elim (λ (y : born_at s.geometry q t < born_at s.geometry q u). let g = gone_left s q l (hash s key) t u on c ripe y in absurd (left g.0 g.1 g.2 x.stands))
        (λ (y : born_at s.geometry q u ≤ born_at s.geometry q t). y) (cases_lt (born_at s.geometry q t) (born_at s.geometry q u))

-- some slot holds the key at each position between
abbrev pub AllHomes : Setting → List ℕ → Past → Past → Type 0
AllHomes s key from to = (z : Past) → Before from z → Before z to → Somewhere s z key

all_homes_to : (s : Setting) (key : List ℕ) (from : Past) {q : Past} (e : Entry) → AllHomes s key from (e ∷ q) → AllHomes s key from q
all_homes_to s key from e a z b c = a z b (later c)

pub alone_of : (s : Setting) {z to : Past} → Before z to → Alone s to → Alone s z
alone_of s here a = a
alone_of s (later b) a = alone_of s b a.0

-- homes keep their place, and go down alone
pub path : (s : Setting) {x y : Past} → Before x y → Legal s y → Alone s y → (key : List ℕ) → AllHomes s key x y → (t u p r : ℕ) (b c : Body) (pb pc : Pair) → Home s x key t p b pb → Home s y key u r c pc → (p ≡ r) × (born_at s.geometry x t ≤ born_at s.geometry y u)
path s {x = x} here l a key all t u p r b c pb pc h k = let z = one_home s x l a key t u p r b c pb pc h k in (z.place, let y = ap (born_at s.geometry x) z.table in omega arith)
path s {x = x} (later {q = q} {e = e} bf) l a key all t u p r b c pb pc h k = by (was s q e l key u r c pc k) (λ u2 r2 c2 pc2 k2. path s bf l.0 a.0 key (all_homes_to s key x e all) t u2 p r2 b c2 pb pc2 h k2) (all q bf (later here))
  where
    kept : IsTable s.geometry q u → born_at s.geometry (e ∷ q) u ≡ born_at s.geometry q u
    kept tb = ap (λ (v : Birth). v.depth) (birth_kept s q e l.1 (sound s q l.0) u tb)

    deeper : IsTable s.geometry q u → place_in s.geometry q u r ≡ Full Copied c → born_at s.geometry q (parent_of s.geometry q u) ≤ born_at s.geometry q u
    deeper tb cp =
        let sp = splits s q l.0 in
        let un = sp.copies u r c tb k.place cp in
        let below = un.kin.below in
        let g16 = s.geometry.deep in
        let set : child_in s.geometry q (parent_of s.geometry q u) un.kin.level ≢ 0 = λ v. not_zero (sym un.kin.is_child ∙ v) in
        let up = sp.upto (parent_of s.geometry q u) un.kin.level un.kin.table (omega arith) set in
        let bn = un.kin.born in
        omega arith
      where
        not_zero : u ≢ 0
        not_zero = table_some s.geometry q (sound s q l.0) u tb

    by : Was s q e key u r c → ((u2 r2 : ℕ) (c2 : Body) (pc2 : Pair) → Home s q key u2 r2 c2 pc2 → (p ≡ r2) × (born_at s.geometry x t ≤ born_at s.geometry q u2)) → Somewhere s q key → (p ≡ r) × (born_at s.geometry x t ≤ born_at s.geometry (e ∷ q) u)
    by (there d pd hm f rp) ih sw = let z = ih u r d pd hm in let y = kept hm.table in (z.0, omega arith)
    by (flipped pd hm tb cp mo at) ih sw = let z = ih (parent_of s.geometry q u) r c pd hm in let y = kept tb in let v = deeper tb cp in (z.0, omega arith)
    by (committed pd tb at kd o n v pk kk row) ih sw = absurd (a.1 u r c pd tb k.place at o v pk row (subst (Somewhere s q) (sym kk) sw))

-- a copied home was this copy as long as it stood in this table, with its moved word
pub copy_back : (s : Setting) {x y : Past} → Before x y → Legal s y → Alone s y → (key : List ℕ) → AllHomes s key x y → (t p : ℕ) (b c d : Body) (pb pc : Pair) → Home s x key t p b pb → Home s y key t p c pc → place_in s.geometry y t p ≡ Full Copied d → (place_in s.geometry x t p ≡ Full Copied d) × (place_in s.geometry x (parent_of s.geometry x t) p ≡ Full Moved d)
copy_back s {x = x} here l a key all t p b c d pb pc h k w = by k.stands
  where
    by : Stands s.geometry x t p c → (place_in s.geometry x t p ≡ Full Copied d) × (place_in s.geometry x (parent_of s.geometry x t) p ≡ Full Moved d)
    by (as_live v) = absurd (cc)
    by (as_copy v m) = (w, subst (λ v. place_in s.geometry x (parent_of s.geometry x t) p ≡ Full Moved v) (full_same Copied Copied c d (sym v ∙ w)) m)
copy_back s {x = x} (later {q = q} {e = e} bf) l a key all t p b c d pb pc h k w = by (was s q e l key t p c pc k) (λ c2 pc2 k2 w2. copy_back s bf l.0 a.0 key (all_homes_to s key x e all) t p b c2 d pb pc2 h k2 w2) (all q bf (later here))
  where
    body_is : Stands s.geometry (e ∷ q) t p c → c ≡ d
    body_is (as_live v) = absurd (cc)
    body_is (as_copy v m) = full_same Copied Copied c d (sym v ∙ w)

    by : Was s q e key t p c → ((c2 : Body) (pc2 : Pair) → Home s q key t p c2 pc2 → place_in s.geometry q t p ≡ Full Copied d → (place_in s.geometry x t p ≡ Full Copied d) × (place_in s.geometry x (parent_of s.geometry x t) p ≡ Full Moved d)) → Somewhere s q key → (place_in s.geometry x t p ≡ Full Copied d) × (place_in s.geometry x (parent_of s.geometry x t) p ≡ Full Moved d)
    by (there d2 pd hm f rp) ih sw =
        let same = body_is k.stands in
        let st = (f (w ∙ ap (Full Copied) (sym same))).0 ∙ ap (Full Copied) same in
        ih d2 pd hm st
    by (flipped pd hm tb cp mo at) ih sw =
        let pa = path s bf l.0 a.0 key (all_homes_to s key x e all) t (parent_of s.geometry q t) p p b c pb pd h hm in
        let bt = born_before s bf l.0 t h.table in
        let sp = splits s q l.0 in
        let un = sp.copies t p c tb k.place cp in
        let below = un.kin.below in
        let g16 = s.geometry.deep in
        let set : child_in s.geometry q (parent_of s.geometry q t) un.kin.level ≢ 0 = λ v. table_some s.geometry q (sound s q l.0) t tb (sym un.kin.is_child ∙ v) in
        let up = sp.upto (parent_of s.geometry q t) un.kin.level un.kin.table (omega arith) set in
        let bn = un.kin.born in
        let lo = pa.1 in
        absurd (omega arith)
    by (committed pd tb at kd o n v pk kk row) ih sw = absurd (a.1 t p c pd tb k.place at o v pk row (subst (Somewhere s q) (sym kk) sw))

-- the last commit of a key up to a position, and the homes since then
pub record LastCommit (s : Setting) (key : List ℕ) (from to : Past) : Type 0 where
  pub past : Past
  pub entry : Entry
  pub after : Before from past
  pub kept : Before (entry ∷ past) to
  pub table : ℕ
  pub place : ℕ
  pub body : Body
  pub pair : Pair
  pub is_table : IsTable s.geometry past table
  pub is_place : IsPlace s.geometry place
  pub at : slot_at table place ≡ entry.at
  pub old : content (word_at s.geometry past entry.at) ≡ Full Pending body
  pub new : content entry.new ≡ Full Live body
  pub now : place_in s.geometry (entry ∷ past) table place ≡ Full Live body
  pub packs : pair_at s.geometry past body ≡ Some pair
  pub same_key : pair.key ≡ key
  pub row : CommitRow s past entry table place
  pub home_pair : Pair
  pub home : Home s (entry ∷ past) key table place body home_pair
  pub all : AllHomes s key (entry ∷ past) to

-- back from a home: homes all the way, or the last commit
pub trace : (s : Setting) {from to : Past} → Before from to → Legal s to → (key : List ℕ) → Somewhere s to key → AllHomes s key from to ⊎ LastCommit s key from to
trace s {from = from} here l key w = inl (λ z b c. subst (λ v. Somewhere s v key) (before_same b c) w)
trace s {from = from} (later {q = q} {e = e} bf) l key w = by (was s q e l key w.table w.place w.body w.pair w.home) (λ v. trace s bf l.0 key v)
  where
    more : AllHomes s key from q → AllHomes s key from (e ∷ q)
    more a z b here = w
    more a z b (later c) = a z b c

    from_earlier : AllHomes s key from q ⊎ LastCommit s key from q → AllHomes s key from (e ∷ q) ⊎ LastCommit s key from (e ∷ q)
    from_earlier (inl a) = inl (more a)
    from_earlier (inr c) = inr (record {
      past = c.past;
      entry = c.entry;
      after = c.after;
      kept = later c.kept;
      table = c.table;
      place = c.place;
      body = c.body;
      pair = c.pair;
      is_table = c.is_table;
      is_place = c.is_place;
      at = c.at;
      old = c.old;
      new = c.new;
      now = c.now;
      packs = c.packs;
      same_key = c.same_key;
      row = c.row;
      home_pair = c.home_pair;
      home = c.home;
      all = longer c.entry c.past c.all;
    })
      where
        longer : (e2 : Entry) (q2 : Past) → AllHomes s key (e2 ∷ q2) q → AllHomes s key (e2 ∷ q2) (e ∷ q)
        longer e2 q2 a z b here = w
        longer e2 q2 a z b (later k) = a z b k

    by : Was s q e key w.table w.place w.body → (Somewhere s q key → AllHomes s key from q ⊎ LastCommit s key from q) → AllHomes s key from (e ∷ q) ⊎ LastCommit s key from (e ∷ q)
    by (there d pd hm f rp) ih = from_earlier (ih (record { table = w.table; place = w.place; body = d; pair = pd; home = hm }))
    by (flipped pd hm tb cp mo at) ih = from_earlier (ih (record { table = parent_of s.geometry q w.table; place = w.place; body = w.body; pair = pd; home = hm }))
    by (committed pd tb at kd o n v pk kk row) ih = inr (record {
      past = q;
      entry = e;
      after = bf;
      kept = here;
      table = w.table;
      place = w.place;
      body = w.body;
      pair = pd;
      is_table = tb;
      is_place = w.home.place;
      at = at;
      old = o;
      new = v;
      now = n;
      packs = pk;
      same_key = kk;
      row = row;
      home_pair = w.pair;
      home = w.home;
      all = λ z b c. subst (λ x. Somewhere s x key) (before_same b c) w;
    })
