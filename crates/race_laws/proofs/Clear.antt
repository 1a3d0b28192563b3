-- Places that are done with: after a clear position a place never again has a live or moved word of a leaving key.
use Rattle.std.specs.Prelude.{◌≡◌, ◌≢◌, ℕ, ◌<◌, List, ◌∷◌, Option, Some, refl}
use Rattle.std.proofs.Common.{sym, ◌∙◌, ap, subst, arith, ⊎_elim}
use Rattle.slot_word.specs.declared.slots.Mark.{Mark}
use Rattle.slot_word.specs.declared.slots.Mark.TheVariants.{Live, Pending, Copied, Moved}
use Rattle.kv_block.specs.Packing.{Pair}
use Rattle.bucket_group.proofs.ExitLaws.{exit-some}
use Rattle.node_words.specs.Addresses.{slot_at}
use Rattle.node_words.specs.Roles.{SlotWord}
use Rattle.verb_log.specs.declared.entry.Entry.{Entry}
use Rattle.verb_log.specs.Decoded.{Body, Full, content}
use Rattle.verb_log.specs.Tables.{Past, Before, here, later, word_at, pair_at, role}
use Rattle.race_laws.specs.Setting.{Setting, hash}
use Rattle.race_laws.specs.Standing.{IsTable, header_in, birth_in, place_in, depth, IsFilling, Exits, Word}
use Rattle.race_laws.specs.Chains.{Holder, live, copied}
use Rattle.race_laws.specs.Splits.{IsOpen, IsClear}
use Rattle.race_laws.specs.Rows.{IsPlace}
use Rattle.race_laws.specs.Legal.{Meets, Legal}
use Rattle.race_laws.proofs.Step.{SlotStep, place, drop, commit, replace, remove, copy, uncopy, flip, settle, clear}
use Rattle.race_laws.proofs.Sound.{Sound, table_some}
use Rattle.race_laws.proofs.SoundStep.{sound, sounds, fresh_packs}
use Rattle.race_laws.proofs.Covers.{table_before}
use Rattle.race_laws.proofs.Slots.{slot_is, standing_named, full_same}
use Rattle.race_laws.proofs.RegionsStep.{packs_kept}
use Rattle.race_laws.proofs.Frames.{slot_cases}
use Rattle.race_laws.proofs.Finality.{open_before}
use Rattle.race_laws.proofs.Splits.{Under, Splits}
use Rattle.race_laws.proofs.TablesStep.{filling_depth}
use Rattle.race_laws.proofs.Opening.{splits}
use Rattle.race_laws.proofs.Pending.{no_commit}
use Rattle.race_laws.proofs.Passes.{exits_before}

-- a table with a copy fills
pub copy_fills : (s : Setting) (q : Past) → Legal s q → (t p : ℕ) (b : Body) → IsTable s.geometry q t → IsPlace s.geometry p → place_in s.geometry q t p ≡ Full Copied b → IsFilling (header_in s.geometry q t)
copy_fills s q l t p b h k w =
    let sp = splits s q l in
    let u = sp.copies t p b h k w in
    let d = ap depth u.splits in
    let below = u.kin.below in
    let g16 = s.geometry.deep in
    by sp u d (omega arith)
  where
    by : (sp : Splits s.geometry q) (u : Under s.geometry q t) → depth (header_in s.geometry q (birth_in s.geometry q t).parent) ≡ u.kin.level → u.kin.level < 16 → IsFilling (header_in s.geometry q t)
    by sp u d small = sp.fills (birth_in s.geometry q t).parent u.kin.level t u.kin.table small u.kin.is_child (table_some s.geometry q (sound s q l) t h) (λ x. omega arith)

-- each entry keeps a clear place free of live and moved words of leaving keys
module _ (s : Setting) (q : Past) (e : Entry) (l : Legal s q) (m : Meets s q e) (at : Past) (a : Before at q) (t d p : ℕ) (k : IsPlace s.geometry p) (cl : IsClear s at t d p) (ih : (mk : Mark) (b : Body) (pr : Pair) → Word s.geometry q mk t p b pr → Exits s q t pr.key d → (mk ≢ Live) × (mk ≢ Moved)) where
  so : Sound s.geometry q
  so = sound s q l

  ss : (x : Past) → Before x q → Sound s.geometry x
  ss x b = sounds s x q b l

  h : IsTable s.geometry q t
  h = table_before s.geometry a t t cl.table

  -- the exit level at the position before the entry
  exits_old : (key : List ℕ) → Exits s (e ∷ q) t key d → Exits s q t key d
  exits_old key ex = exits_before s (later {e = e} here) (l, m) t d key h ex

  on : slot_at t p ≡ e.at → role s.geometry q e.at ≡ SlotWord t p
  on z = ap (role s.geometry q) (sym z) ∙ slot_is s.geometry q so t p h k

  old : slot_at t p ≡ e.at → (m2 : Mark) (c : Body) → content (word_at s.geometry q e.at) ≡ Full m2 c → place_in s.geometry q t p ≡ Full m2 c
  old z m2 c o = ap (λ v. content (word_at s.geometry q v)) z ∙ o

  pairs_same : {o : Option Pair} {x y : Pair} → o ≡ Some x → o ≡ Some y → x.key ≡ y.key
  pairs_same h k = cc

  module _ (mk : Mark) (b : Body) (pr : Pair) (w : Word s.geometry (e ∷ q) mk t p b pr) (ex : Exits s (e ∷ q) t pr.key d) where
    earlier : (m2 : Mark) (c : Body) (pc : Pair) → Word s.geometry q m2 t p c pc → pc.key ≡ pr.key → (m2 ≢ Live) × (m2 ≢ Moved)
    earlier m2 c pc wc same = ih m2 c pc wc (exits_old pc.key (subst (λ v. Exits s (e ∷ q) t v d) (sym same) ex))

    now : (c : Body) (pc : Pair) → pair_at s.geometry (e ∷ q) c ≡ Some pc → c ≡ b → pc.key ≡ pr.key
    now c pc z y = pairs_same (ap (pair_at s.geometry (e ∷ q)) (sym y) ∙ z) w.packs

    by_holder : (c rb : Body) (rp : Pair) → Holder s q rp.key t p rb rp → place_in s.geometry q t p ≡ Full Live c → rp.key ≡ pr.key → ⊥
    by_holder c rb rp (live u r y g wd ky ca ch) st key = (earlier Live y g wd key).0 refl
    by_holder c rb rp (copied u r y g wd ky ca ta tp mo) st key = let zz = wd.stands in cc

    changed : slot_at t p ≡ e.at → SlotStep s q e t p → content e.new ≡ Full mk b → (mk ≢ Live) × (mk ≢ Moved)
    changed z (place c i o nw row) v = ((λ y. cc), (λ y. cc))
    changed z (drop c i o nw) v = absurd (cc)
    changed z (commit c i o nw row) v = absurd (
        let same = full_same Live Live row.body c (sym row.word ∙ nw) in
        let pk : pair_at s.geometry q c ≡ Some row.pair = subst (λ x. pair_at s.geometry q x ≡ Some row.pair) same row.packs in
        let n = standing_named s.geometry q so t p Pending c h k (old z Pending c o) in
        let key = now c row.pair (packs_kept s q e m so ss c n ∙ pk) (full_same Live mk c b (sym nw ∙ v)) in
        no_commit s e a l m t d p k cl c row.pair z o pk (exits_old row.pair.key (subst (λ x. Exits s (e ∷ q) t x d) (sym key) ex)) row.swept)
    changed z (replace c f i o nw x row) v = absurd (
        let key = now row.new_body row.new_pair (fresh_packs s q e l m so ss t p e.client row.new_body row.new_pair (on z) row.fresh) (full_same Live mk row.new_body b (sym row.word ∙ v)) in
        by_holder c row.body row.pair row.holder (old z Live c o) (sym row.same_key ∙ key))
    changed z (remove c i o nw row) v = absurd (cc)
    changed z (copy c i o nw row) v = ((λ y. cc), (λ y. cc))
    changed z (uncopy c i o nw row) v = absurd (cc)
    changed z (flip c i o nw row) v = absurd (
        let st = row.word.stands in
        let same = full_same Live Live row.body c (sym st ∙ old z Live c o) in
        let n = standing_named s.geometry q so t p Live row.body h k st in
        let key = now row.body row.pair (packs_kept s q e m so ss row.body n ∙ row.word.packs) (same ∙ full_same Moved mk c b (sym nw ∙ v)) in
        (earlier Live row.body row.pair row.word key).0 refl)
    changed z (settle c i o nw row) v = absurd (
        let f = copy_fills s q l t p c h k (old z Copied c o) in
        let hd = filling_depth (header_in s.geometry q t) f in
        let fd = (splits s q l).first t (depth (header_in s.geometry q t)) h hd in
        let op : d < depth (header_in s.geometry q t) = subst (λ x. IsOpen x d) hd (open_before s a l t d cl.table cl.opened) in
        let low = (exit-some (hash s pr.key) (birth_in s.geometry q t).depth d (exits_old pr.key ex)).from in
        omega arith)
    changed z (clear c i o nw row) v = absurd (cc)

    clear_step : (mk ≢ Live) × (mk ≢ Moved)
    clear_step = ⊎_elim
        (λ (x : place_in s.geometry (e ∷ q) t p ≡ place_in s.geometry q t p).
        let stands = sym x ∙ w.stands in
        let n = standing_named s.geometry q so t p mk b h k stands in
        ih mk b pr (record { stands = stands; packs = sym (packs_kept s q e m so ss b n) ∙ w.packs }) (exits_old pr.key ex))
        (λ x. changed x.1 x.2 (sym x.0 ∙ w.stands))
        (slot_cases s q e m so t h p k)

-- the law of clear places
pub clear_on : (s : Setting) {at q : Past} → Before at q → Legal s q → (t d p : ℕ) → IsPlace s.geometry p → IsClear s at t d p → (mk : Mark) (b : Body) (pr : Pair) → Word s.geometry q mk t p b pr → Exits s q t pr.key d → (mk ≢ Live) × (mk ≢ Moved)
clear_on s here l t d p k cl mk b pr w ex = let x = cl.clear mk b pr w ex in ((λ y. cc), (λ y. cc))
clear_on s {at = at} (later {q = q} {e = e} a) l t d p k cl mk b pr w ex = clear_step s q e l.0 l.1 at a t d p k cl (λ mk2 b2 pr2. clear_on s a l.0 t d p k cl mk2 b2 pr2) mk b pr w ex
