-- A pending word stands from its Place to its Commit, and no Commit follows a clear position of its place.
use Rattle.std.specs.Prelude.{nat_le, ◌≡◌, ℕ, zero, suc, ◌+◌, ◌<◌, Bool, true, false, cond, List, [], ◌∷◌, Some, None, refl}
use Rattle.std.proofs.Common.{sym, ◌∙◌, ap, subst, arith, ⊎_elim}
use Rattle.slot_word.specs.declared.slots.Mark.TheVariants.{Pending}
use Rattle.kv_block.specs.Packing.{Pair, unpacked}
use Rattle.node_words.specs.declared.geometry.Geometry.{Geometry}
use Rattle.node_words.specs.Addresses.{table_words, slot_at}
use Rattle.verb_log.specs.declared.entry.Entry.{Entry}
use Rattle.verb_log.specs.declared.kind.Kind.TheVariants.{Place}
use Rattle.verb_log.specs.Decoded.{Body, Full, content}
use Rattle.verb_log.specs.Tables.{Past, Before, here, later, word_at, words_at, pair_at, table_of, judged_role, is_published}
use Rattle.verb_log.specs.Kinds.{kind}
use Rattle.verb_log.proofs.Positions.{Before-trans}
use Rattle.race_laws.specs.Setting.{Setting}
use Rattle.race_laws.specs.Standing.{IsTable, header_in, place_in, Exits}
use Rattle.race_laws.specs.Splits.{IsClear}
use Rattle.race_laws.specs.Looks.{Swept}
use Rattle.race_laws.specs.Rows.{IsPlace, IsPlacedSwept}
use Rattle.race_laws.specs.Legal.{Meets, Legal}
use Rattle.race_laws.proofs.Positions.{legal_before, before_total}
use Rattle.race_laws.proofs.Step.{SlotStep, place, drop, commit, replace, remove, copy, uncopy, flip, settle, clear}
use Rattle.race_laws.proofs.Touch.{word_put, table_stays}
use Rattle.race_laws.specs.Named.{Named}
use Rattle.race_laws.proofs.Sound.{Sound, judged_is}
use Rattle.race_laws.proofs.SoundStep.{sound, named_at, packs_later}
use Rattle.race_laws.proofs.Covers.{table_before}
use Rattle.race_laws.proofs.Slots.{slot_is, slot_place_of, standing_named, full_same, some_same}
use Rattle.race_laws.proofs.Frames.{slot_cases}
use Rattle.race_laws.proofs.Passes.{exits_before, open_gone, swept_gone}
use Rattle.race_laws.proofs.SlotKinds.{on_slot}

unpacked-empty : unpacked [] ≡ None
unfolding unpacked
unpacked-empty = refl

-- a block that packs a pair has words
pub some_words : (g : Geometry) (past : Past) (b : Body) (q : Pair) → pair_at g past b ≡ Some q → 0 < b.length
some_words g past b q h = by b.length refl
  where
    no_pair : (c : Bool) (ws : List ℕ) → unpacked ws ≡ None → cond c (unpacked ws) None ≡ None
    no_pair true ws h = h
    no_pair false ws h = refl

    by : (n : ℕ) → b.length ≡ n → 0 < b.length
    by zero e =
        let x = ap (λ n. unpacked (words_at g past b.at n)) e in let y = unpacked-empty in
        let z = no_pair (nat_le (b.at + b.length) g.words) (words_at g past b.at b.length) (x ∙ y) in absurd (cc)
    by (suc n) e = omega arith

-- where an entry placed a word, and what stands there since
pub record WasPlaced (g : Geometry) (before : Past) (placed : Entry) (t p : ℕ) : Type 0 where
  pub table : IsTable g before t
  pub place : IsPlace g p
  pub at : slot_at t p ≡ placed.at

pub was_placed : (s : Setting) (before : Past) (placed : Entry) → Sound s.geometry before → kind s.geometry before placed ≡ Some Place → (t p : ℕ) × WasPlaced s.geometry before placed t p
was_placed s before placed so k =
    let x = on_slot s.geometry before placed (judged_role s.geometry before placed.at) Place refl k in
    let y = slot_place_of s.geometry before so placed.at x.0 x.1 (sym (judged_is s.geometry before so placed.at) ∙ x.2) in
    (x.0, x.1, record { table = so.whole placed.at x.0 y.2 x.0 (omega arith) (low x.0); place = y.0; at = sym y.1 })
  where
    low : (t : ℕ) → t < t + table_words s.geometry
    low t = omega arith

-- a place of a table and a place of another at one address are one
pub same_slot : (g : Geometry) (past : Past) → Sound g past → (t p u r : ℕ) → IsTable g past t → IsTable g past u → IsPlace g p → IsPlace g r → slot_at t p ≡ slot_at u r → (u ≡ t) × (r ≡ p)
same_slot g past so t p u r h k x y q =
    let a = (slot_place_of g past so (slot_at t p) t p (slot_is g past so t p h x)).2 in
    let b = (slot_place_of g past so (slot_at u r) u r (slot_is g past so u r k y)).2 in
    let e : u ≡ t = some_same u t (table_of g past (slot_at u r)) b (ap (table_of g past) (sym q) ∙ a) in
    (e, omega arith)

-- a pending word is put by a Place alone, so one that stood before stands now
pending_back : (s : Setting) (q : Past) (e : Entry) → Legal s q → Meets s q e → (t p : ℕ) (b : Body) (pr : Pair) → IsTable s.geometry q t → IsPlace s.geometry p → Named s.geometry q b → pair_at s.geometry q b ≡ Some pr → place_in s.geometry (e ∷ q) t p ≡ Full Pending b → place_in s.geometry q t p ≡ Full Pending b
pending_back s q e l m t p b pr h k n pk w = ⊎_elim
    (λ (x : place_in s.geometry (e ∷ q) t p ≡ place_in s.geometry q t p). sym x ∙ w) (λ x. absurd (by x.2 (sym x.0 ∙ w)))
    (slot_cases s q e m (sound s q l) t h p k)
  where
    by : SlotStep s q e t p → content e.new ≡ Full Pending b → ⊥
    by (place c i o nw row) v =
        let same = full_same Pending Pending row.body b (sym row.word ∙ v) in
        let z = some_words s.geometry q b pr pk in
        let f : is_published s.geometry q b.at ≡ false = subst (λ (x : Body). is_published s.geometry q x.at ≡ false) same (row.fresh.unpublished row.body.at (omega arith) (subst (λ (x : Body). row.body.at < row.body.at + x.length) (sym same) (omega arith))) in
        let y = n.published b.at (omega arith) (omega arith) in
        cc
    by (drop c i o nw) v = cc
    by (commit c i o nw row) v = cc
    by (replace c d i o nw x row) v = cc
    by (remove c i o nw row) v = cc
    by (copy c i o nw row) v = cc
    by (uncopy c i o nw row) v = cc
    by (flip c i o nw row) v = cc
    by (settle c i o nw row) v = cc
    by (clear c i o nw row) v = cc

-- a word that was pending before and is pending after was pending between
pub pending_between : (s : Setting) {p0 x q : Past} → Before p0 x → Before x q → Legal s q → (t p : ℕ) (b : Body) → IsTable s.geometry p0 t → IsPlace s.geometry p → place_in s.geometry p0 t p ≡ Full Pending b → place_in s.geometry q t p ≡ Full Pending b → place_in s.geometry x t p ≡ Full Pending b
pending_between s a here l t p b h k v w = w
pending_between s {p0 = p0} a (later {q = q} {e = e} c) l t p b h k v w =
    let n0 = standing_named s.geometry p0 (sound s p0 (legal_before s (Before-trans a c) l.0)) t p Pending b h k v in
    let n = named_at s (Before-trans a c) l.0 b n0 in
    let back = pending_back s q e l.0 l.1 t p b n.pair (table_before s.geometry (Before-trans a c) t t h) k n n.packs w in
    pending_between s a c l.0 t p b h k v back

-- the Place of a commit: the word stood pending there since then
pub record Origin (s : Setting) (past : Past) (e : Entry) (t p : ℕ) (b : Body) (pr : Pair) : Type 0 where
  pub placed : Entry
  pub before : Past
  pub kept : Before (placed ∷ before) past
  pub table : IsTable s.geometry before t
  pub is_place : kind s.geometry before placed ≡ Some Place
  pub at : slot_at t p ≡ placed.at
  pub stood : place_in s.geometry (placed ∷ before) t p ≡ Full Pending b
  pub swept : Swept s past (placed ∷ before) pr.key (slot_at t p)

pub origin : (s : Setting) (past : Past) (e : Entry) → Legal s past → Meets s past e → (t p : ℕ) (b : Body) (pr : Pair) → IsTable s.geometry past t → IsPlace s.geometry p → slot_at t p ≡ e.at → content (word_at s.geometry past e.at) ≡ Full Pending b → IsPlacedSwept s past e pr → Origin s past e t p b pr
origin s past e l m t p b pr h k a o sw =
    let lb = legal_before s (Before-trans (later here) sw.kept) l in
    let w = was_placed s sw.before sw.placed (sound s sw.before lb) sw.is_place in
    let same = same_slot s.geometry past (sound s past l) t p w.0 w.1 h (table_before s.geometry (Before-trans (later here) sw.kept) w.0 w.0 w.2.table) k w.2.place (a ∙ sym sw.slot ∙ sym w.2.at) in
    let put = word_put s.geometry sw.before sw.placed (slot_at t p) (a ∙ sym sw.slot) in
    record {
      placed = sw.placed;
      before = sw.before;
      kept = sw.kept;
      table = subst (IsTable s.geometry sw.before) same.0 w.2.table;
      is_place = sw.is_place;
      at = a ∙ sym sw.slot;
      stood = ap content (put ∙ sw.word ∙ sym m.stands) ∙ o;
      swept = subst (Swept s past (sw.placed ∷ sw.before) pr.key) (sym a) sw.swept;
    }

-- no commit of a leaving key follows a clear position of its place
pub no_commit : (s : Setting) {at past : Past} (e : Entry) → Before at past → Legal s past → Meets s past e → (t d p : ℕ) → IsPlace s.geometry p → IsClear s at t d p → (b : Body) (pr : Pair) → slot_at t p ≡ e.at → content (word_at s.geometry past e.at) ≡ Full Pending b → pair_at s.geometry past b ≡ Some pr → Exits s past t pr.key d → IsPlacedSwept s past e pr → ⊥
no_commit s {at = at} {past = past} e a l m t d p k cl b pr q o pk ex sw =
    let h = table_before s.geometry a t t cl.table in
    let og = origin s past e l m t p b pr h k q o sw in
    let exa = exits_before s a l t d pr.key cl.table ex in
    ⊎_elim
    (λ (x : Before (og.placed ∷ og.before) at).
    let lat = legal_before s a l in
    let tp = table_stays s.geometry og.before og.placed t t og.table in
    let now : place_in s.geometry past t p ≡ Full Pending b = ap (λ v. content (word_at s.geometry past v)) q ∙ o in
    let stood = pending_between s x a l t p b tp k og.stood now in
    let n = standing_named s.geometry at (sound s at lat) t p Pending b cl.table k stood in
    let pa : pair_at s.geometry at b ≡ Some pr = sym (packs_later s a l b n) ∙ pk in
    let y = cl.clear Pending b pr (record { stands = stood; packs = pa }) exa in
    cc)
    (λ (x : Before at (og.placed ∷ og.before)). swept_gone s x l t p d pr.key cl.table k exa (open_gone (header_in s.geometry at t) d cl.opened) og.swept)
    (before_total og.kept a)
