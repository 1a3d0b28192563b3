-- The slot that holds a key: where it was one entry before, and that there is one alone as long as no commit finds another.
use Rattle.std.specs.Prelude.{◌≡◌, ◌≢◌, ℕ, List, [], ◌∷◌, Option, Some, ◌⊎◌, refl}
use Rattle.std.proofs.Common.{sym, ◌∙◌, ap, subst, inl, inr, arith, ⊎_elim}
use Rattle.slot_word.specs.declared.slots.Mark.{Mark}
use Rattle.slot_word.specs.declared.slots.Mark.TheVariants.{Live, Pending, Copied, Moved}
use Rattle.slot_word.specs.declared.births.Birth.{Birth}
use Rattle.kv_block.specs.Packing.{Pair}
use Rattle.node_words.specs.declared.geometry.Geometry.{Geometry}
use Rattle.node_words.specs.Addresses.{slot_at}
use Rattle.verb_log.specs.declared.entry.Entry.{Entry}
use Rattle.verb_log.specs.declared.kind.Kind.TheVariants.{Commit, Replace}
use Rattle.verb_log.specs.Decoded.{Body, Empty, Full, content}
use Rattle.verb_log.specs.Tables.{Past, Before, word_at, pair_at, role}
use Rattle.verb_log.specs.Kinds.{kind}
use Rattle.race_laws.specs.Setting.{Setting}
use Rattle.race_laws.specs.Standing.{IsTable, header_in, birth_in, child_in, place_in, depth}
use Rattle.race_laws.specs.Chains.{Holder, live, copied}
use Rattle.race_laws.specs.Rows.{IsPlace, CommitRow}
use Rattle.race_laws.specs.Legal.{Legal}
use Rattle.race_laws.proofs.Step.{SlotStep, place, drop, commit, replace, remove, copy, uncopy, flip, settle, clear}
use Rattle.race_laws.proofs.Sound.{Sound}
use Rattle.race_laws.proofs.SoundStep.{sound, sounds, fresh_packs}
use Rattle.race_laws.proofs.Covers.{table_before}
use Rattle.race_laws.proofs.Slots.{slot_is, standing_named, full_same}
use Rattle.race_laws.proofs.RegionsStep.{packs_kept}
use Rattle.race_laws.proofs.Frames.{birth_kept, slot_cases}
use Rattle.race_laws.proofs.Splits.{new_table, new_slot}
use Rattle.race_laws.proofs.Opening.{splits, opening_empty_slot}
use Rattle.race_laws.proofs.Pending.{same_slot}

-- the table from which a table was split
abbrev pub parent_of : Geometry → Past → ℕ → ℕ
parent_of g q t = (birth_in g q t).parent

-- the slot shows a block: live, or as a copy whose moved word stands in the parent
pub data Stands (g : Geometry) (q : Past) (t p : ℕ) (b : Body) : Type 0 where
  as_live : place_in g q t p ≡ Full Live b → Stands g q t p b
  as_copy : place_in g q t p ≡ Full Copied b → place_in g q (parent_of g q t) p ≡ Full Moved b → Stands g q t p b

-- the slot at place p of table t holds the key, in block b
pub record Home (s : Setting) (q : Past) (key : List ℕ) (t p : ℕ) (b : Body) (pr : Pair) : Type 0 where
  pub table : IsTable s.geometry q t
  pub place : IsPlace s.geometry p
  pub packs : pair_at s.geometry q b ≡ Some pr
  pub same_key : pr.key ≡ key
  pub stands : Stands s.geometry q t p b

-- some slot holds the key
pub record Somewhere (s : Setting) (q : Past) (key : List ℕ) : Type 0 where
  pub table : ℕ
  pub place : ℕ
  pub body : Body
  pub pair : Pair
  pub home : Home s q key table place body pair

-- a table with a copy has a parent
pub parent_table : (s : Setting) (q : Past) → Legal s q → (t p : ℕ) (b : Body) → IsTable s.geometry q t → IsPlace s.geometry p → place_in s.geometry q t p ≡ Full Copied b → IsTable s.geometry q (parent_of s.geometry q t)
parent_table s q l t p b h k w = ((splits s q l).copies t p b h k w).kin.table

-- two copies of a parent's place stand in one table
pub same_child : (s : Setting) (q : Past) → Legal s q → (t u p r : ℕ) (b c : Body) → IsTable s.geometry q t → IsTable s.geometry q u → IsPlace s.geometry p → IsPlace s.geometry r → place_in s.geometry q t p ≡ Full Copied b → place_in s.geometry q u r ≡ Full Copied c → parent_of s.geometry q t ≡ parent_of s.geometry q u → t ≡ u
same_child s q l t u p r b c h k x y v w e =
    let a = (splits s q l).copies t p b h x v in
    let d = (splits s q l).copies u r c k y w in
    let level : a.kin.level ≡ d.kin.level = ap depth (sym a.splits ∙ ap (header_in s.geometry q) e ∙ d.splits) in
    sym a.kin.is_child ∙ ap (λ z. child_in s.geometry q z a.kin.level) e ∙ ap (child_in s.geometry q (parent_of s.geometry q u)) level ∙ d.kin.is_child

-- the entry replaces the live word of the slot by one of this block
pub record IsReplaced (s : Setting) (q : Past) (e : Entry) (t p : ℕ) (b : Body) : Type 0 where
  pub at : slot_at t p ≡ e.at
  pub kind : kind s.geometry q e ≡ Some Replace
  pub new : content e.new ≡ Full Live b

-- where a home was one entry before
pub data Was (s : Setting) (q : Past) (e : Entry) (key : List ℕ) (t p : ℕ) (b : Body) : Type 0 where
  -- in the same slot; and a copy was this copy, its moved word with it
  there : (c : Body) (pc : Pair) → Home s q key t p c pc → (place_in s.geometry (e ∷ q) t p ≡ Full Copied b → (place_in s.geometry q t p ≡ Full Copied b) × (place_in s.geometry q (parent_of s.geometry q t) p ≡ Full Moved b)) → (c ≡ b) ⊎ IsReplaced s q e t p b → Was s q e key t p b
  -- live in the parent, and this entry flips it
  flipped : (pc : Pair) → Home s q key (parent_of s.geometry q t) p b pc → IsTable s.geometry q t → place_in s.geometry q t p ≡ Full Copied b → place_in s.geometry (e ∷ q) (parent_of s.geometry q t) p ≡ Full Moved b → slot_at (parent_of s.geometry q t) p ≡ e.at → Was s q e key t p b
  -- nowhere: this entry commits it
  committed : (pc : Pair) → IsTable s.geometry q t → slot_at t p ≡ e.at → kind s.geometry q e ≡ Some Commit → content (word_at s.geometry q e.at) ≡ Full Pending b → place_in s.geometry (e ∷ q) t p ≡ Full Live b → content e.new ≡ Full Live b → pair_at s.geometry q b ≡ Some pc → pc.key ≡ key → CommitRow s q e t p → Was s q e key t p b

module _ (s : Setting) (q : Past) (e : Entry) (l : Legal s (e ∷ q)) (key : List ℕ) (t p : ℕ) (k : IsPlace s.geometry p) (h : IsTable s.geometry q t) where
  so : Sound s.geometry q
  so = sound s q l.0

  ss : (x : Past) → Before x q → Sound s.geometry x
  ss x b = sounds s x q b l.0

  old : slot_at t p ≡ e.at → (m : Mark) (c : Body) → content (word_at s.geometry q e.at) ≡ Full m c → place_in s.geometry q t p ≡ Full m c
  old z m c o = ap (λ v. content (word_at s.geometry q v)) z ∙ o

  parent_kept : parent_of s.geometry (e ∷ q) t ≡ parent_of s.geometry q t
  parent_kept = ap (λ (x : Birth). x.parent) (birth_kept s q e l.1 so t h)

  -- the pair of a block that stood in a slot
  pair_back : (m : Mark) (u r : ℕ) (b : Body) (pr : Pair) → IsTable s.geometry q u → IsPlace s.geometry r → place_in s.geometry q u r ≡ Full m b → pair_at s.geometry (e ∷ q) b ≡ Some pr → pair_at s.geometry q b ≡ Some pr
  pair_back m u r b pr x y st pk = sym (packs_kept s q e l.1 so ss b (standing_named s.geometry q so u r m b x y st)) ∙ pk

  by_holder : (c rb : Body) (rp : Pair) → Holder s q rp.key t p rb rp → place_in s.geometry q t p ≡ Full Live c → rp.key ≡ key → Home s q key t p rb rp
  by_holder c rb rp (live u r y g wd ky ca ch) st kk = record { table = h; place = k; packs = wd.packs; same_key = kk; stands = as_live wd.stands }
  by_holder c rb rp (copied u r y g wd ky ca ta tp mo) st kk = let zz = wd.stands in absurd (cc)

  was_live : (b : Body) (pr : Pair) → pair_at s.geometry (e ∷ q) b ≡ Some pr → pr.key ≡ key → place_in s.geometry (e ∷ q) t p ≡ Full Live b → slot_at t p ≡ e.at → SlotStep s q e t p → content e.new ≡ Full Live b → Was s q e key t p b
  was_live b pr pk kk w z (place c i o n row) v = absurd (cc)
  was_live b pr pk kk w z (drop c i o n) v = absurd (cc)
  was_live b pr pk kk w z (commit c i o n row) v =
      let same = full_same Live Live c b (sym n ∙ v) in
      let ob = subst (λ x. content (word_at s.geometry q e.at) ≡ Full Pending x) same o in
      committed pr h z i ob w v (pair_back Pending t p b pr h k (old z Pending b ob) pk) kk row
  was_live b pr pk kk w z (replace c d i o n x row) v =
      let same = full_same Live Live row.new_body b (sym row.word ∙ v) in
      let on = ap (role s.geometry q) (sym z) ∙ slot_is s.geometry q so t p h k in
      let nk = pairs (fresh_packs s q e l.0 l.1 so ss t p e.client row.new_body row.new_pair on row.fresh) (ap (pair_at s.geometry (e ∷ q)) same ∙ pk) in
      there row.body row.pair (by_holder c row.body row.pair row.holder (old z Live c o) (sym row.same_key ∙ nk ∙ kk)) (λ y. absurd (cc)) (inr (record { at = z; kind = i; new = v }))
    where
      pairs : {o : Option Pair} {x y : Pair} → o ≡ Some x → o ≡ Some y → x.key ≡ y.key
      pairs h k = cc
  was_live b pr pk kk w z (remove c i o n row) v = absurd (cc)
  was_live b pr pk kk w z (copy c i o n row) v = absurd (cc)
  was_live b pr pk kk w z (uncopy c i o n row) v = absurd (cc)
  was_live b pr pk kk w z (flip c i o n row) v = absurd (cc)
  was_live b pr pk kk w z (settle c i o n row) v =
      let same = full_same Live Live c b (sym n ∙ v) in
      let moved = full_same Live Live row.body b (sym row.word ∙ v) in
      let st : place_in s.geometry q t p ≡ Full Copied b = old z Copied b (subst (λ x. content (word_at s.geometry q e.at) ≡ Full Copied x) same o) in
      let mo : place_in s.geometry q (parent_of s.geometry q t) p ≡ Full Moved b = subst (λ x. place_in s.geometry q (parent_of s.geometry q t) p ≡ Full Moved x) moved row.moved in
      there b pr (record { table = h; place = k; packs = pair_back Copied t p b pr h k st pk; same_key = kk; stands = as_copy st mo }) (λ y. absurd (cc)) (inl refl)
  was_live b pr pk kk w z (clear c i o n row) v = absurd (cc)

  flip_moved : (u : ℕ) (b : Body) → SlotStep s q e u p → content e.new ≡ Full Moved b → content (word_at s.geometry q e.at) ≡ Full Live b
  flip_moved u b (place c i o n row) v = absurd (cc)
  flip_moved u b (drop c i o n) v = absurd (cc)
  flip_moved u b (commit c i o n row) v = absurd (cc)
  flip_moved u b (replace c d i o n x row) v = absurd (cc)
  flip_moved u b (remove c i o n row) v = absurd (cc)
  flip_moved u b (copy c i o n row) v = absurd (cc)
  flip_moved u b (uncopy c i o n row) v = absurd (cc)
  flip_moved u b (flip c i o n row) v = subst (λ x. content (word_at s.geometry q e.at) ≡ Full Live x) (full_same Moved Moved c b (sym n ∙ v)) o
  flip_moved u b (settle c i o n row) v = absurd (cc)
  flip_moved u b (clear c i o n row) v = absurd (cc)

  copy_not_moved : (b c : Body) → SlotStep s q e t p → content e.new ≡ Full Copied b → IsTable s.geometry q (parent_of s.geometry q t) × (place_in s.geometry q (parent_of s.geometry q t) p ≢ Full Moved c)
  copy_not_moved b c (place d i o n row) v = absurd (cc)
  copy_not_moved b c (drop d i o n) v = absurd (cc)
  copy_not_moved b c (commit d i o n row) v = absurd (cc)
  copy_not_moved b c (replace d f i o n x row) v = absurd (cc)
  copy_not_moved b c (remove d i o n row) v = absurd (cc)
  copy_not_moved b c (copy d i o n row) v = (table_before s.geometry row.live.before _ _ row.live.table, row.not_moved c)
  copy_not_moved b c (uncopy d i o n row) v = absurd (cc)
  copy_not_moved b c (flip d i o n row) v = absurd (cc)
  copy_not_moved b c (settle d i o n row) v = absurd (cc)
  copy_not_moved b c (clear d i o n row) v = absurd (cc)

  -- a copy that stood already
  was_copy_stood : (b : Body) (pr : Pair) → pair_at s.geometry (e ∷ q) b ≡ Some pr → pr.key ≡ key → place_in s.geometry q t p ≡ Full Copied b → place_in s.geometry (e ∷ q) (parent_of s.geometry q t) p ≡ Full Moved b → Was s q e key t p b
  was_copy_stood b pr pk kk st mo =
      let par = parent_table s q l.0 t p b h k st in
      let pq = pair_back Copied t p b pr h k st pk in
      ⊎_elim
      (λ (x : place_in s.geometry (e ∷ q) (parent_of s.geometry q t) p ≡ place_in s.geometry q (parent_of s.geometry q t) p).
      let mq = sym x ∙ mo in there b pr (record { table = h; place = k; packs = pq; same_key = kk; stands = as_copy st mq }) (λ y. (st, mq)) (inl refl))
      (λ x.
      let o = flip_moved (parent_of s.geometry q t) b x.2 (sym x.0 ∙ mo) in
      let liv = ap (λ v. content (word_at s.geometry q v)) x.1 ∙ o in
      flipped pr (record { table = par; place = k; packs = pq; same_key = kk; stands = as_live liv }) h st mo x.1)
      (slot_cases s q e l.1 so (parent_of s.geometry q t) par p k)

  -- a copy that the entry puts there answers to no moved word
  was_copy_new : (b : Body) → place_in s.geometry (e ∷ q) t p ≡ Full Copied b → place_in s.geometry (e ∷ q) (parent_of s.geometry q t) p ≡ Full Moved b → slot_at t p ≡ e.at → SlotStep s q e t p → content e.new ≡ Full Copied b → ⊥
  was_copy_new b w mo z st v =
      let x = copy_not_moved b b st v in
      ⊎_elim (λ (y : place_in s.geometry (e ∷ q) (parent_of s.geometry q t) p ≡ place_in s.geometry q (parent_of s.geometry q t) p). x.1 (sym y ∙ mo))
      (λ y. let same : parent_of s.geometry q t ≡ t = tables (parent_of s.geometry q t) (y.1 ∙ sym z) in let u = ap (λ v. place_in s.geometry (e ∷ q) v p) same in cc)
      (slot_cases s q e l.1 so (parent_of s.geometry q t) x.0 p k)
    where
      tables : (u : ℕ) → slot_at u p ≡ slot_at t p → u ≡ t
      tables u h = omega arith

  was_stands : (b : Body) (pr : Pair) → pair_at s.geometry (e ∷ q) b ≡ Some pr → pr.key ≡ key → Stands s.geometry (e ∷ q) t p b → Was s q e key t p b
  was_stands b pr pk kk (as_live w) = ⊎_elim
      (λ (x : place_in s.geometry (e ∷ q) t p ≡ place_in s.geometry q t p).
      let st = sym x ∙ w in
      there b pr (record { table = h; place = k; packs = pair_back Live t p b pr h k st pk; same_key = kk; stands = as_live st }) (λ y. absurd (cc)) (inl refl))
      (λ x. was_live b pr pk kk w x.1 x.2 (sym x.0 ∙ w)) (slot_cases s q e l.1 so t h p k)
  was_stands b pr pk kk (as_copy w mo) =
      let mq = subst (λ v. place_in s.geometry (e ∷ q) v p ≡ Full Moved b) parent_kept mo in
      ⊎_elim
      (λ (x : place_in s.geometry (e ∷ q) t p ≡ place_in s.geometry q t p). was_copy_stood b pr pk kk (sym x ∙ w) mq)
      (λ x. absurd (was_copy_new b w mq x.1 x.2 (sym x.0 ∙ w))) (slot_cases s q e l.1 so t h p k)

-- a home stands in a table that was there
pub home_table : (s : Setting) (q : Past) (e : Entry) → Legal s (e ∷ q) → (key : List ℕ) (t p : ℕ) (b : Body) (pr : Pair) → Home s (e ∷ q) key t p b pr → IsTable s.geometry q t
home_table s q e l key t p b pr hm = ⊎_elim (λ (x : IsTable s.geometry q t). x)
    (λ x. absurd (by hm.stands (ap (λ v. place_in s.geometry (e ∷ q) v p) x.0 ∙ new_slot s q e l.0 l.1 x.1 p hm.place))) (new_table s q e l.0 l.1 t hm.table)
  where
    by : Stands s.geometry (e ∷ q) t p b → place_in s.geometry (e ∷ q) t p ≡ Empty → ⊥
    by (as_live w) z = cc
    by (as_copy w mo) z = cc

pub was : (s : Setting) (q : Past) (e : Entry) → Legal s (e ∷ q) → (key : List ℕ) (t p : ℕ) (b : Body) (pr : Pair) → Home s (e ∷ q) key t p b pr → Was s q e key t p b
was s q e l key t p b pr hm = was_stands s q e l key t p hm.place (home_table s q e l key t p b pr hm) b pr hm.packs hm.same_key hm.stands

-- a commit finds the key nowhere
abbrev pub Lonely : Setting → Past → Entry → Type 0
Lonely s q e = (t p : ℕ) (b : Body) (pr : Pair) → IsTable s.geometry q t → IsPlace s.geometry p → slot_at t p ≡ e.at → content (word_at s.geometry q e.at) ≡ Full Pending b → content e.new ≡ Full Live b → pair_at s.geometry q b ≡ Some pr → CommitRow s q e t p → Somewhere s q pr.key → ⊥

abbrev pub Alone : Setting → Past → Type 0
Alone s [] = Unit {0}
Alone s (e ∷ q) = Alone s q × Lonely s q e

-- the same slot, with the same block
pub record SameHome (t u p r : ℕ) (b c : Body) : Type 0 where
  pub table : t ≡ u
  pub place : p ≡ r
  pub body : b ≡ c

same_body_there : (g : Geometry) (q : Past) (t p : ℕ) (b c : Body) → Stands g q t p b → Stands g q t p c → b ≡ c
same_body_there g q t p b c (as_live w) (as_live v) = full_same Live Live b c (sym w ∙ v)
same_body_there g q t p b c (as_live w) (as_copy v m) = absurd (cc)
same_body_there g q t p b c (as_copy w m) (as_live v) = absurd (cc)
same_body_there g q t p b c (as_copy w m) (as_copy v n) = full_same Copied Copied b c (sym w ∙ v)

pub same_home_at : (s : Setting) (q : Past) (key : List ℕ) (t u p r : ℕ) (b c : Body) (pb pc : Pair) → Home s q key t p b pb → Home s q key u r c pc → t ≡ u → p ≡ r → SameHome t u p r b c
same_home_at s q key t u p r b c pb pc x y e f = record { table = e; place = f; body = same_body_there s.geometry q t p b c x.stands (subst (λ v. Stands s.geometry q t v c) (sym f) (subst (λ v. Stands s.geometry q v r c) (sym e) y.stands)) }

no_moved : (g : Geometry) (q : Past) (t p : ℕ) (b c : Body) → Stands g q t p b → place_in g q t p ≡ Full Moved c → ⊥
no_moved g q t p b c (as_live w) z = cc
no_moved g q t p b c (as_copy w m) z = cc

-- there is one home alone
pub one_home : (s : Setting) (q : Past) → Legal s q → Alone s q → (key : List ℕ) (t u p r : ℕ) (b c : Body) (pb pc : Pair) → Home s q key t p b pb → Home s q key u r c pc → SameHome t u p r b c
one_home s [] l a key t u p r b c pb pc x y = let z = opening_empty_slot s.geometry t p x.table x.place in absurd (by x.stands z)
  where
    by : Stands s.geometry [] t p b → place_in s.geometry [] t p ≡ Empty → ⊥
    by (as_live w) z = cc
    by (as_copy w mo) z = cc
one_home s (e ∷ q) l a key t u p r b c pb pc x y = by (was s q e l key t p b pb x) (was s q e l key u r c pc y) (λ t2 u2 p2 r2 b2 c2 pb2 pc2 h2 k2. one_home s q l.0 a.0 key t2 u2 p2 r2 b2 c2 pb2 pc2 h2 k2)
  where
    somewhere : (t2 p2 : ℕ) (b2 : Body) (pr2 : Pair) (kk : List ℕ) → kk ≡ key → Home s q key t2 p2 b2 pr2 → Somewhere s q kk
    somewhere t2 p2 b2 pr2 kk f hm = subst (Somewhere s q) (sym f) (record { table = t2; place = p2; body = b2; pair = pr2; home = hm })

    again : t ≡ u → p ≡ r → SameHome t u p r b c
    again e2 f2 = same_home_at s (e ∷ q) key t u p r b c pb pc x y e2 f2

    by : Was s q e key t p b → Was s q e key u r c → ((t2 u2 p2 r2 : ℕ) (b2 c2 : Body) (pb2 pc2 : Pair) → Home s q key t2 p2 b2 pb2 → Home s q key u2 r2 c2 pc2 → SameHome t2 u2 p2 r2 b2 c2) → SameHome t u p r b c
    by (there d pd h f rp) (there d2 pd2 h2 f2 rp2) ih = let z = ih t u p r d d2 pd pd2 h h2 in again z.table z.place
    by (there d pd h f rp) (flipped pd2 h2 tb2 cp2 mo2 at2) ih =
        let z = ih t (parent_of s.geometry q u) p r d c pd pd2 h h2 in
        absurd (no_moved s.geometry (e ∷ q) t p b c x.stands (ap (λ v. place_in s.geometry (e ∷ q) v p) z.table ∙ ap (place_in s.geometry (e ∷ q) (parent_of s.geometry q u)) z.place ∙ mo2))
    by (there d pd h f rp) (committed pd2 tb2 at2 kd2 o2 n2 v2 pk2 kk2 row2) ih = absurd (a.1 u r c pd2 tb2 y.place at2 o2 v2 pk2 row2 (somewhere t p d pd pd2.key kk2 h))
    by (flipped pd h tb cp mo at) (there d2 pd2 h2 f2 rp2) ih =
        let z = ih (parent_of s.geometry q t) u p r b d2 pd pd2 h h2 in
        absurd (no_moved s.geometry (e ∷ q) u r c b y.stands (ap (λ v. place_in s.geometry (e ∷ q) v r) (sym z.table) ∙ ap (place_in s.geometry (e ∷ q) (parent_of s.geometry q t)) (sym z.place) ∙ mo))
    by (flipped pd h tb cp mo at) (flipped pd2 h2 tb2 cp2 mo2 at2) ih =
        let z = ih (parent_of s.geometry q t) (parent_of s.geometry q u) p r b c pd pd2 h h2 in
        again (same_child s q l.0 t u p r b c tb tb2 x.place y.place cp cp2 z.table) z.place
    by (flipped pd h tb cp mo at) (committed pd2 tb2 at2 kd2 o2 n2 v2 pk2 kk2 row2) ih = absurd (a.1 u r c pd2 tb2 y.place at2 o2 v2 pk2 row2 (somewhere (parent_of s.geometry q t) p b pd pd2.key kk2 h))
    by (committed pd tb at kd o n v pk kk row) (there d2 pd2 h2 f2 rp2) ih = absurd (a.1 t p b pd tb x.place at o v pk row (somewhere u r d2 pd2 pd.key kk h2))
    by (committed pd tb at kd o n v pk kk row) (flipped pd2 h2 tb2 cp2 mo2 at2) ih = absurd (a.1 t p b pd tb x.place at o v pk row (somewhere (parent_of s.geometry q u) r c pd2 pd.key kk h2))
    by (committed pd tb at kd o n v pk kk row) (committed pd2 tb2 at2 kd2 o2 n2 v2 pk2 kk2 row2) ih =
        let z = same_slot s.geometry q (sound s q l.0) t p u r tb tb2 x.place y.place (at ∙ sym at2) in again (sym z.0) (sym z.1)
