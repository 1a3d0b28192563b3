-- A legal commit finds no holder of its key: a pass from its Place on would have met it.
use Rattle.std.specs.Prelude.{◌≡◌, ◌≢◌, ℕ, [], ◌∷◌, Option, Some}
use Rattle.std.proofs.Common.{sym, ◌∙◌, ap, subst, ⊎_elim}
use Rattle.slot_word.specs.declared.slots.Mark.TheVariants.{Live, Pending}
use Rattle.kv_block.specs.Packing.{Pair}
use Rattle.node_words.specs.Addresses.{slot_at}
use Rattle.verb_log.specs.declared.entry.Entry.{Entry}
use Rattle.verb_log.specs.Decoded.{Body, Full, content}
use Rattle.verb_log.specs.Tables.{Past, Before, here, later, word_at, pair_at}
use Rattle.verb_log.proofs.Positions.{Before-trans}
use Rattle.race_laws.specs.Setting.{Setting}
use Rattle.race_laws.specs.Standing.{IsTable, place_in}
use Rattle.race_laws.specs.Looks.{Swept}
use Rattle.race_laws.specs.Rows.{IsPlace, CommitRow, IsPlacedSwept}
use Rattle.race_laws.specs.Legal.{Meets, Legal}
use Rattle.race_laws.proofs.Positions.{before_total, legal_before}
use Rattle.race_laws.proofs.Touch.{table_stays}
use Rattle.race_laws.proofs.Slots.{full_same}
use Rattle.race_laws.proofs.Pending.{Origin, origin, pending_between}
use Rattle.race_laws.proofs.Homes.{Lonely, Alone}
use Rattle.race_laws.proofs.Tracks.{in_order_passed, no_pass}
use Rattle.race_laws.proofs.Paths.{AllHomes, LastCommit, trace}
use Rattle.race_laws.proofs.WordTracks.{HomeIn, OwnPending, PendingWord, Phase, home_track, mixed_track, pending_of, pending_track}

-- the sweep of a commit, as one of the pair that its word packs
swept_pair : (s : Setting) (q : Past) (e : Entry) (t p : ℕ) (b : Body) (pr : Pair) → content e.new ≡ Full Live b → pair_at s.geometry q b ≡ Some pr → (row : CommitRow s q e t p) → IsPlacedSwept s q e pr
swept_pair s q e t p b pr n pk row = subst (IsPlacedSwept s q e) (pairs (ap (pair_at s.geometry q) (full_same Live Live b row.body (sym n ∙ row.word)) ∙ row.packs) pk) row.swept
  where
    pairs : {o : Option Pair} {x y : Pair} → o ≡ Some x → o ≡ Some y → x ≡ y
    pairs h k = cc

-- the slot of a pending word is pending from its Place on
own_stays : (s : Setting) (q : Past) (e : Entry) → Legal s q → (t p : ℕ) (b : Body) (pr : Pair) → IsPlace s.geometry p → (og : Origin s q e t p b pr) → place_in s.geometry q t p ≡ Full Pending b → (from to : Past) → Before (og.placed ∷ og.before) from → Before to q → OwnPending s (Some (slot_at t p)) from to
own_stays s q e l t p b pr k og now from to pf tq z a x y o =
    (b, ap (λ n. content (word_at s.geometry z n)) (sym (some_is o)) ∙ pending_between s (Before-trans pf x) (Before-trans y tq) l t p b (table_stays s.geometry og.before og.placed t t og.table) k og.stood now)
  where
    some_is : {m n : ℕ} → Some m ≡ Some n → m ≡ n
    some_is h = cc

-- the law of commits: a commit finds its key in no slot
pub lonely : (s : Setting) (q : Past) (e : Entry) → Legal s q → Meets s q e → Alone s q → Lonely s q e
lonely s q e l m a t p b pr h k z o n pk row sw = ⊎_elim
    (λ (all : AllHomes s pr.key (og.placed ∷ og.before) q).
    no_pass s pr.key (Some (slot_at t p)) (og.placed ∷ og.before) q l sw.place (HomeIn s pr.key sw.place)
    (home_track s l a og.kept pr.key (Some (slot_at t p)) all (own_stays s q e l t p b pr k og now (og.placed ∷ og.before) q here here) sw.table sw.place sw.body sw.pair sw.home)
    (in_order_passed s q (og.placed ∷ og.before) pr.key (Some (slot_at t p)) og.swept))
    (λ (lc : LastCommit s pr.key (og.placed ∷ og.before) q). other lc)
    (trace s og.kept l pr.key sw)
  where
    spq : IsPlacedSwept s q e pr
    spq = swept_pair s q e t p b pr n pk row

    og : Origin s q e t p b pr
    og = origin s q e l m t p b pr h k z o spq

    now : place_in s.geometry q t p ≡ Full Pending b
    now = ap (λ v. content (word_at s.geometry q v)) z ∙ o

    tp : IsTable s.geometry (og.placed ∷ og.before) t
    tp = table_stays s.geometry og.before og.placed t t og.table

    other : LastCommit s pr.key (og.placed ∷ og.before) q → ⊥
    other lc =
        let l2 = legal_before s lc.kept l in
        let sp2 = swept_pair s lc.past lc.entry lc.table lc.place lc.body lc.pair lc.new lc.packs lc.row in
        let og2 = origin s lc.past lc.entry l2.0 l2.1 lc.table lc.place lc.body lc.pair lc.is_table lc.is_place lc.at lc.old sp2 in
        let now2 : place_in s.geometry lc.past lc.table lc.place ≡ Full Pending lc.body = ap (λ v. content (word_at s.geometry lc.past v)) lc.at ∙ lc.old in
        let q2q = Before-trans (later {e = lc.entry} here) lc.kept in
        let st = pending_between s (later {e = lc.entry} lc.after) lc.kept l t p b tp k og.stood now in
        let apart : slot_at lc.table lc.place ≢ slot_at t p = λ v. let u = ap (λ x. content (word_at s.geometry (lc.entry ∷ lc.past) x)) v in let w = lc.now in (cc) in
        ⊎_elim
        (λ (x : Before (og.placed ∷ og.before) (og2.placed ∷ og2.before)).
        let pw = pending_of s e l m t p b pr h k z o pk spq og x og2.kept q2q in
        let own2 = own_stays s lc.past lc.entry l2.0 lc.table lc.place lc.body lc.pair lc.is_place og2 now2 (og2.placed ∷ og2.before) lc.past here here in
        let tr = pending_track s l2.0 og2.kept pr.key (slot_at lc.table lc.place) t p b pr pw (λ v. apart (sym v)) own2 in
        let sw2 = subst (λ v. Swept s lc.past (og2.placed ∷ og2.before) v (slot_at lc.table lc.place)) lc.same_key og2.swept in
        no_pass s pr.key (Some (slot_at lc.table lc.place)) (og2.placed ∷ og2.before) lc.past l2.0 p (λ y u. u ≡ t) tr
        (in_order_passed s lc.past (og2.placed ∷ og2.before) pr.key (Some (slot_at lc.table lc.place)) sw2))
        (λ (x : Before (og2.placed ∷ og2.before) (og.placed ∷ og.before)).
        let pw = pending_of s lc.entry l2.0 l2.1 lc.table lc.place lc.body lc.pair lc.is_table lc.is_place lc.at lc.old lc.packs sp2 og2 x lc.after here in
        let pw2 = subst (λ v. PendingWord s v (og.placed ∷ og.before) lc.past lc.table lc.place lc.body lc.pair) lc.same_key pw in
        let own1 = own_stays s q e l t p b pr k og now (og.placed ∷ og.before) q here here in
        no_pass s pr.key (Some (slot_at t p)) (og.placed ∷ og.before) q l lc.place (Phase s pr.key lc.past lc.entry lc.table lc.place)
        (mixed_track s l a pr.key (slot_at t p) lc pw2 own1 apart)
        (in_order_passed s q (og.placed ∷ og.before) pr.key (Some (slot_at t p)) og.swept))
        (before_total lc.after og2.kept)

-- so of every legal log
pub alone : (s : Setting) (q : Past) → Legal s q → Alone s q
alone s [] l = tt
alone s (e ∷ q) l = (alone s q l.0, lonely s q e l.0 l.1 (alone s q l.0))
