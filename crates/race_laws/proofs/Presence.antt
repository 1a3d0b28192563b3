-- A copy in the child, after its place of the parent was moved of its block, holds the key.
use Rattle.std.specs.Prelude.{◌≡◌, ℕ, suc, ◌<◌, ◌≤◌, List, [], ◌∷◌, Contains, Option, Some, ◌⊎◌, refl}
use Rattle.std.proofs.Common.{sym, ◌∙◌, ap, subst, inl, inr, arith, ⊎_elim}
use Rattle.slot_word.specs.declared.slots.Mark.TheVariants.{Live, Copied, Moved}
use Rattle.slot_word.specs.declared.births.Birth.{Birth}
use Rattle.kv_block.specs.Packing.{Pair}
use Rattle.bucket_group.specs.ExitLevel.{exit_level}
use Rattle.bucket_group.proofs.CandidateLaws.{candidates_slots}
use Rattle.node_words.specs.Addresses.{slot_at}
use Rattle.node_words.proofs.Sizes.{some_groups}
use Rattle.verb_log.specs.declared.entry.Entry.{Entry}
use Rattle.verb_log.specs.Decoded.{Body, Empty, Full, content}
use Rattle.verb_log.specs.Tables.{Past, Before, here, later, word_at, pair_at}
use Rattle.race_laws.specs.Setting.{Setting, hash, places}
use Rattle.race_laws.specs.Standing.{IsTable, header_in, birth_in, child_in, place_in, depth, Exits, IsIn}
use Rattle.race_laws.specs.Chains.{IsCandidate, Holder, live, copied}
use Rattle.race_laws.specs.Splits.{IsOpen}
use Rattle.race_laws.specs.Rows.{IsPlace, CopyRow, ClearRow}
use Rattle.race_laws.specs.Legal.{Legal}
use Rattle.race_laws.proofs.Positions.{legal_before}
use Rattle.race_laws.proofs.Step.{SlotStep, place, drop, commit, replace, remove, copy, uncopy, flip, settle, clear}
use Rattle.race_laws.proofs.Sound.{Sound}
use Rattle.race_laws.proofs.SoundStep.{sound, packs_later}
use Rattle.race_laws.proofs.Covers.{table_before}
use Rattle.race_laws.proofs.Slots.{standing_named, full_same}
use Rattle.race_laws.proofs.Frames.{birth_kept, slot_cases}
use Rattle.race_laws.proofs.Splits.{new_table, new_slot}
use Rattle.race_laws.proofs.Opening.{splits}
use Rattle.race_laws.proofs.Passes.{exits_later}
use Rattle.race_laws.proofs.Chain.{chain_table}
use Rattle.race_laws.proofs.Candidates.{moved_splits}
use Rattle.race_laws.proofs.Homes.{parent_of, parent_table, Stands, as_live, as_copy, Home}
use Rattle.race_laws.proofs.Paths.{home_candidate}

-- a place among a key's candidates is a slot's
IsIn-Contains : (p : ℕ) (xs : List ℕ) → IsIn p xs → Contains xs p
IsIn-Contains p [] h = absurd h
IsIn-Contains p (x ∷ xs) h = ⊎_elim (λ (q : p ≡ x). (0, omega arith, sym q)) (λ (q : IsIn p xs). let y = IsIn-Contains p xs q in (suc y.0, omega arith, y.2)) h

pub candidate_place : (s : Setting) (key : List ℕ) (p : ℕ) → IsIn p (places s key) → IsPlace s.geometry p
candidate_place s key p h = candidates_slots s.geometry.groups (hash s key) p (positive (some_groups s.geometry)) (IsIn-Contains p (places s key) h)
  where
    positive : 1 ≤ s.geometry.groups → 0 < s.geometry.groups
    positive h = omega arith

-- a home is the holder, and the holder a home
pub home_holder : (s : Setting) (q : Past) → Legal s q → (key : List ℕ) (t p : ℕ) (b : Body) (pr : Pair) → Home s q key t p b pr → Holder s q key t p b pr
home_holder s q l key t p b pr hm = by hm.stands (home_candidate s q l key t p b pr hm)
  where
    by : Stands s.geometry q t p b → IsCandidate s q t p key → Holder s q key t p b pr
    by (as_live w) st = live t p b pr (record { stands = w; packs = hm.packs }) hm.same_key st.candidate st.chain
    by (as_copy w m) st = copied t p b pr (record { stands = w; packs = hm.packs }) hm.same_key st.candidate hm.table (parent_table s q l t p b hm.table hm.place w) m

pub holder_home : (s : Setting) (q : Past) → Legal s q → (key : List ℕ) (t p : ℕ) (b : Body) (pr : Pair) → Holder s q key t p b pr → Home s q key t p b pr
holder_home s q l key t p b pr (live u r c y w k ca ch) = record { table = chain_table s q l (hash s key) t ch; place = candidate_place s key p ca; packs = w.packs; same_key = k; stands = as_live w.stands }
holder_home s q l key t p b pr (copied u r c y w k ca ta tp mo) = record { table = ta; place = candidate_place s key p ca; packs = w.packs; same_key = k; stands = as_copy w.stands mo }

-- the place of the parent is moved of the block now, or the child's place is no copy of it
module _ (s : Setting) (at : Past) (la : Legal s at) (t p : ℕ) (b : Body) (ta : IsTable s.geometry at t) (k : IsPlace s.geometry p) (ma : place_in s.geometry at t p ≡ Full Moved b) (c : ℕ) where
  abbrev pub Free : Past → Type 0
  Free z = IsTable s.geometry z c → parent_of s.geometry z c ≡ t → place_in s.geometry z c p ≡ Full Copied b → ⊥

  module _ (z : Past) (e : Entry) (l : Legal s (e ∷ z)) (az : Before at z) where
    so : Sound s.geometry z
    so = sound s z l.0

    tz : IsTable s.geometry z t
    tz = table_before s.geometry az t t ta

    table_back : IsTable s.geometry (e ∷ z) c → place_in s.geometry (e ∷ z) c p ≡ Full Copied b → IsTable s.geometry z c
    table_back h w = ⊎_elim (λ (x : IsTable s.geometry z c). x) (λ x. let y = ap (λ v. place_in s.geometry (e ∷ z) v p) x.0 ∙ new_slot s z e l.0 l.1 x.1 p k in absurd (cc)) (new_table s z e l.0 l.1 c h)

    parent_back : IsTable s.geometry z c → parent_of s.geometry (e ∷ z) c ≡ t → parent_of s.geometry z c ≡ t
    parent_back h w = sym (ap (λ (x : Birth). x.parent) (birth_kept s z e l.1 so c h)) ∙ w

    cleared : place_in s.geometry z t p ≡ Full Moved b → slot_at t p ≡ e.at → ClearRow s.geometry z e t p → content e.new ≡ Empty → Free (e ∷ z)
    cleared mo a row n h pa w =
        let hz = table_back h w in
        ⊎_elim
        (λ (x : place_in s.geometry (e ∷ z) c p ≡ place_in s.geometry z c p).
        let st = sym x ∙ w in
        let pz = parent_back hz pa in
        let u = (splits s z l.0).copies c p b hz k st in
        let level = ap depth (ap (header_in s.geometry z) (sym pz) ∙ u.splits) in
        let child : row.child ≡ c = sym row.is_child.linked ∙ ap (child_in s.geometry z t) level ∙ ap (λ v. child_in s.geometry z v u.kin.level) (sym pz) ∙ u.kin.is_child in
        let same = full_same Moved Moved row.body b (sym row.moved ∙ mo) in
        row.settled (ap (λ v. place_in s.geometry z v p) child ∙ st ∙ ap (Full Copied) (sym same)))
        (λ x. let y = x.0 in cc)
        (slot_cases s z e l.1 so c hz p k)

    moved_on : place_in s.geometry z t p ≡ Full Moved b → slot_at t p ≡ e.at → SlotStep s z e t p → Free (e ∷ z)
    moved_on mo a (place d i o n row) = let w = ap (λ v. content (word_at s.geometry z v)) a in absurd (cc)
    moved_on mo a (drop d i o n) = let w = ap (λ v. content (word_at s.geometry z v)) a in absurd (cc)
    moved_on mo a (commit d i o n row) = let w = ap (λ v. content (word_at s.geometry z v)) a in absurd (cc)
    moved_on mo a (replace d f i o n x row) = let w = ap (λ v. content (word_at s.geometry z v)) a in absurd (cc)
    moved_on mo a (remove d i o n row) = let w = ap (λ v. content (word_at s.geometry z v)) a in absurd (cc)
    moved_on mo a (copy d i o n row) = absurd (⊎_elim (λ (w : content (word_at s.geometry z e.at) ≡ Empty). let v = ap (λ v. content (word_at s.geometry z v)) a in cc) (λ w. let v = ap (λ v. content (word_at s.geometry z v)) a in let u = w.1 in cc) o)
    moved_on mo a (uncopy d i o n row) = let w = ap (λ v. content (word_at s.geometry z v)) a in absurd (cc)
    moved_on mo a (flip d i o n row) = let w = ap (λ v. content (word_at s.geometry z v)) a in absurd (cc)
    moved_on mo a (settle d i o n row) = let w = ap (λ v. content (word_at s.geometry z v)) a in absurd (cc)
    moved_on mo a (clear d i o n row) = cleared mo a row n

    -- a block that was moved there since the split opened is not copied again
    copied_again : IsTable s.geometry z c → parent_of s.geometry z c ≡ t → CopyRow s z e c p → content e.new ≡ Full Copied b → ⊥
    copied_again h pa row n =
        let wl = row.live in
        let same = full_same Copied Copied row.body b (sym row.word ∙ n) in
        let nm = standing_named s.geometry at (sound s at la) t p Moved b ta k ma in
        let ms = moved_splits s at la t p b nm.pair ta k (record { stands = ma; packs = nm.packs }) in
        let pb : pair_at s.geometry z b ≡ Some nm.pair = packs_later s az l.0 b nm ∙ nm.packs in
        let lw = legal_before s wl.before l.0 in
        let nw = standing_named s.geometry wl.at (sound s wl.at lw) (parent_of s.geometry z c) p Live row.body wl.table k wl.live.stands in
        let pw : pair_at s.geometry z row.body ≡ Some wl.pair = packs_later s wl.before l.0 row.body nw ∙ wl.live.packs in
        let key = keys (ap (pair_at s.geometry z) (sym same) ∙ pw) pb in
        let ez = exits_later s wl.before l.0 (parent_of s.geometry z c) row.level wl.pair.key wl.table wl.leaving in
        let ez2 : exit_level (hash s nm.pair.key) (birth_in s.geometry z t).depth ≡ Some row.level = subst (λ v. Exits s z v nm.pair.key row.level) pa (subst (λ v. Exits s z (parent_of s.geometry z c) v row.level) key ez) in
        let ea = exits_later s az l.0 t ms.0 nm.pair.key ta ms.1 in
        let level : ms.0 ≡ row.level = levels ea ez2 in
        let opened : IsOpen (header_in s.geometry at (parent_of s.geometry z c)) row.level = subst (λ v. IsOpen (header_in s.geometry at v) row.level) (sym pa) (subst (λ v. IsOpen v row.level) (sym ms.2) (at_most row.level ms.0 (sym level))) in
        row.never_moved at az (subst (IsTable s.geometry at) (sym pa) ta) opened (ap (λ v. place_in s.geometry at v p) pa ∙ ma ∙ ap (Full Moved) (sym same))
      where
        keys : {o : Option Pair} {x y : Pair} → o ≡ Some x → o ≡ Some y → x.key ≡ y.key
        keys h k = cc

        levels : {o : Option ℕ} {i j : ℕ} → o ≡ Some i → o ≡ Some j → i ≡ j
        levels h k = cc

        at_most : (n m : ℕ) → n ≡ m → n ≤ m
        at_most n m h = omega arith

    copied_on : Free z → Free (e ∷ z)
    copied_on f h pa w =
        let hz = table_back h w in
        let pz = parent_back hz pa in
        ⊎_elim (λ (x : place_in s.geometry (e ∷ z) c p ≡ place_in s.geometry z c p). f hz pz (sym x ∙ w)) (λ x. by hz pz x.2 (sym x.0 ∙ w)) (slot_cases s z e l.1 so c hz p k)
      where
        by : IsTable s.geometry z c → parent_of s.geometry z c ≡ t → SlotStep s z e c p → content e.new ≡ Full Copied b → ⊥
        by hz pz (place d i o n row) v = cc
        by hz pz (drop d i o n) v = cc
        by hz pz (commit d i o n row) v = cc
        by hz pz (replace d g i o n x row) v = cc
        by hz pz (remove d i o n row) v = cc
        by hz pz (copy d i o n row) v = copied_again hz pz row v
        by hz pz (uncopy d i o n row) v = cc
        by hz pz (flip d i o n row) v = cc
        by hz pz (settle d i o n row) v = cc
        by hz pz (clear d i o n row) v = cc

    moved_step : (place_in s.geometry z t p ≡ Full Moved b) ⊎ Free z → (place_in s.geometry (e ∷ z) t p ≡ Full Moved b) ⊎ Free (e ∷ z)
    moved_step (inl mo) = ⊎_elim (λ (x : place_in s.geometry (e ∷ z) t p ≡ place_in s.geometry z t p). inl (x ∙ mo)) (λ x. inr (moved_on mo x.1 x.2)) (slot_cases s z e l.1 so t tz p k)
    moved_step (inr f) = inr (copied_on f)

  pub moved_or_free : (q : Past) → Before at q → Legal s q → (place_in s.geometry q t p ≡ Full Moved b) ⊎ Free q
  moved_or_free q here l = inl ma
  moved_or_free q (later {q = z} {e = e} az) l = moved_step z e l az (moved_or_free z az l.0)

-- the law of presence, of copies
pub copy_present : (s : Setting) {at q : Past} → Before at q → Legal s q → (t c p : ℕ) (b : Body) (pr : Pair) → IsTable s.geometry at t → IsPlace s.geometry p → place_in s.geometry at t p ≡ Full Moved b → IsTable s.geometry q c → parent_of s.geometry q c ≡ t → place_in s.geometry q c p ≡ Full Copied b → pair_at s.geometry q b ≡ Some pr → Holder s q pr.key c p b pr
copy_present s {at = at} {q = q} bf l t c p b pr ta k ma tc pa w pk = ⊎_elim
    (λ (mo : place_in s.geometry q t p ≡ Full Moved b). home_holder s q l pr.key c p b pr (record { table = tc; place = k; packs = pk; same_key = refl; stands = as_copy w (ap (λ v. place_in s.geometry q v p) pa ∙ mo) }))
    (λ f. absurd (f tc pa w)) (moved_or_free s at (legal_before s bf l) t p b ta k ma c q bf l)
