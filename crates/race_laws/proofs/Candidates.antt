-- Where the words of slots stand: at a candidate of their key, in a table on its chain that the key has not left.
use Rattle.std.specs.Prelude.{◌≡◌, ◌≢◌, ℕ, ◌+◌, ◌<◌, ◌≤◌, List, [], ◌∷◌, Option, Some, ◌⊎◌}
use Rattle.std.proofs.Common.{sym, ◌∙◌, ap, subst, arith, ⊎_elim}
use Rattle.slot_word.specs.declared.slots.Mark.{Mark}
use Rattle.slot_word.specs.declared.slots.Mark.TheVariants.{Live, Pending, Copied, Moved}
use Rattle.slot_word.specs.declared.births.Birth.{Birth}
use Rattle.kv_block.specs.Packing.{Pair}
use Rattle.bucket_group.proofs.ExitLaws.{exit-some}
use Rattle.node_words.specs.Addresses.{header_at, slot_at}
use Rattle.node_words.specs.Roles.{SlotWord}
use Rattle.verb_log.specs.declared.entry.Entry.{Entry}
use Rattle.verb_log.specs.Decoded.{Body, Full, content, SplittingAt, header}
use Rattle.verb_log.specs.Tables.{Past, Before, here, later, word_at, pair_at, role}
use Rattle.race_laws.specs.Setting.{Setting, hash}
use Rattle.race_laws.specs.Standing.{IsTable, header_in, birth_in, child_in, place_in, depth, IsGone, Exits, Word}
use Rattle.race_laws.specs.Chains.{IsCandidate, goes_on, Holder, live, copied}
use Rattle.race_laws.specs.Splits.{WasClear}
use Rattle.race_laws.specs.Rows.{IsPlace, IsFresh, CopyRow}
use Rattle.race_laws.specs.Legal.{Legal}
use Rattle.race_laws.proofs.Step.{SlotStep, place, drop, commit, replace, remove, copy, uncopy, flip, settle, clear, HeaderStep, open_it, finish, ripen}
use Rattle.race_laws.proofs.Touch.{same_or_not}
use Rattle.race_laws.proofs.Sound.{Sound, table_some}
use Rattle.race_laws.proofs.SoundStep.{sound, sounds, named_at, packs_later, fresh_packs}
use Rattle.race_laws.proofs.Covers.{table_before}
use Rattle.race_laws.proofs.Slots.{slot_is, standing_named, full_same}
use Rattle.race_laws.proofs.RegionsStep.{packs_kept}
use Rattle.race_laws.proofs.Frames.{birth_kept, header_cases, slot_cases}
use Rattle.race_laws.proofs.Splits.{IsFirst, Kin, Splits, new_table, new_birth, new_header, new_slot}
use Rattle.race_laws.proofs.Opening.{splits, opening_empty_slot, first_depth_only}
use Rattle.race_laws.proofs.Clear.{clear_on}
use Rattle.race_laws.proofs.Passes.{exits_later}
use Rattle.race_laws.proofs.Chain.{chain_before}

-- what was clear stays so
pub was_clear_later : (s : Setting) {q : Past} (e : Entry) (t i p : ℕ) → WasClear s q t i p → WasClear s (e ∷ q) t i p
was_clear_later s e t i p w = record { at = w.at; before = later w.before; clear = w.clear }

-- after the split at a level every place was clear
pub finished : (s : Setting) (q : Past) → Legal s q → (t i p : ℕ) → IsTable s.geometry q t → (birth_in s.geometry q t).depth ≤ i → i < depth (header_in s.geometry q t) → IsPlace s.geometry p → WasClear s q t i p
finished s [] l t i p h b x k = absurd (by (splits s [] l) (first_depth_only s t h))
  where
    by : Splits s.geometry [] → (depth (header_in s.geometry [] t) ≡ (birth_in s.geometry [] t).depth) → ⊥
    by sp e = omega arith
finished s (e ∷ q) l t i p h b x k = ⊎_elim
    (λ (y : IsTable s.geometry q t).
    let same = ap (λ (v : Birth). v.depth) (birth_kept s q e l.1 (sound s q l.0) t y) in
    let from : (birth_in s.geometry q t).depth ≤ i = omega arith in
    ⊎_elim (λ (z : header_in s.geometry (e ∷ q) t ≡ header_in s.geometry q t). was_clear_later s e t i p (finished s q l.0 t i p y from (subst (λ v. i < depth v) z x) k))
    (λ z. step y from z.0 z.1 z.2 (λ (w : i < depth (header_in s.geometry q t)). was_clear_later s e t i p (finished s q l.0 t i p y from w k)))
    (header_cases s q e l.1 (sound s q l.0) t y))
    (λ y. let z = ap depth (ap (header_in s.geometry (e ∷ q)) y.0 ∙ new_header s q e l.0 l.1 y.1 ∙ y.1.row.newborn.head) in
    let w = ap (λ v. (birth_in s.geometry (e ∷ q) v).depth) y.0 ∙ ap (λ (v : Birth). v.depth) (new_birth s q e l.0 l.1 y.1) ∙ y.1.row.newborn.birth_depth in
    absurd (omega arith))
    (new_table s q e l.0 l.1 t h)
  where
    step : IsTable s.geometry q t → (birth_in s.geometry q t).depth ≤ i → header_in s.geometry (e ∷ q) t ≡ header e.new → header_at t ≡ e.at → HeaderStep s q e t → (i < depth (header_in s.geometry q t) → WasClear s (e ∷ q) t i p) → WasClear s (e ∷ q) t i p
    step y from z a (open_it d o n r) ih =
        let was = ap depth (ap (λ v. header (word_at s.geometry q v)) a ∙ o) in let now = ap depth (z ∙ n) in ih (omega arith)
    step y from z a (finish d o n r) ih =
        let was = ap depth (ap (λ v. header (word_at s.geometry q v)) a ∙ o) in
        let now = ap depth (z ∙ n) in
        let old : depth (header e.old) ≡ d = ap depth (ap header (sym l.1.stands) ∙ o) in
        ⊎_elim (λ (w : i ≡ d). was_clear_later s e t i p (subst (λ v. WasClear s q t v p) (old ∙ sym w) (r.clear p k))) (λ (w : i ≢ d). ih (omega arith)) (same_or_not i d)
    step y from z a (ripen d o n r) ih =
        let was = ap depth (ap (λ v. header (word_at s.geometry q v)) a ∙ o) in let now = ap depth (z ∙ n) in ih (omega arith)

-- a live or moved word is of a key that has not left its table
pub not_left : (s : Setting) (q : Past) → Legal s q → (mk : Mark) (t p i : ℕ) (b : Body) (pr : Pair) → IsTable s.geometry q t → IsPlace s.geometry p → Word s.geometry q mk t p b pr → (mk ≡ Live) ⊎ (mk ≡ Moved) → Exits s q t pr.key i → i < depth (header_in s.geometry q t) → ⊥
not_left s q l mk t p i b pr h k w stands ex x =
    let from = (exit-some (hash s pr.key) (birth_in s.geometry q t).depth i ex).from in
    let c = finished s q l t i p h from x k in
    let y = clear_on s c.before l t i p k c.clear mk b pr w ex in
    ⊎_elim (λ (z : mk ≡ Live). y.0 z) (λ (z : mk ≡ Moved). y.1 z) stands

-- a moved word stands in a table that splits at the exit level of its key
pub moved_splits : (s : Setting) (q : Past) → Legal s q → (t p : ℕ) (b : Body) (pr : Pair) → IsTable s.geometry q t → IsPlace s.geometry p → Word s.geometry q Moved t p b pr → (i : ℕ) × Exits s q t pr.key i × (header_in s.geometry q t ≡ SplittingAt i)
moved_splits s [] l t p b pr h k w = let x = opening_empty_slot s.geometry t p h k in let y = w.stands in absurd (cc)
moved_splits s (e ∷ q) l t p b pr h k w = ⊎_elim
    (λ (y : IsTable s.geometry q t). ⊎_elim
    (λ (z : place_in s.geometry (e ∷ q) t p ≡ place_in s.geometry q t p).
    let st = sym z ∙ w.stands in
    let n = standing_named s.geometry q so t p Moved b y k st in
    let old : Word s.geometry q Moved t p b pr = record { stands = st; packs = sym (packs_kept s q e l.1 so ss b n) ∙ w.packs } in
    stood y st (moved_splits s q l.0 t p b pr y k old))
    (λ z. changed y z.1 z.2 (sym z.0 ∙ w.stands)) (slot_cases s q e l.1 so t y p k))
    (λ y. let z = ap (λ v. place_in s.geometry (e ∷ q) v p) y.0 ∙ new_slot s q e l.0 l.1 y.1 p k in let v = w.stands in absurd (cc))
    (new_table s q e l.0 l.1 t h)
  where
    so : Sound s.geometry q
    so = sound s q l.0

    ss : (x : Past) → Before x q → Sound s.geometry x
    ss x b = sounds s x q b l.0

    exits_now : (i : ℕ) → IsTable s.geometry q t → Exits s q t pr.key i → Exits s (e ∷ q) t pr.key i
    exits_now i y x = exits_later s (later {e = e} here) l t i pr.key y x

    by_header : (i : ℕ) → header_in s.geometry q t ≡ SplittingAt i → place_in s.geometry q t p ≡ Full Moved b → header_at t ≡ e.at → HeaderStep s q e t → ⊥
    by_header i q2 st a (open_it d o n r) = let was = ap (λ v. header (word_at s.geometry q v)) a ∙ o in cc
    by_header i q2 st a (finish d o n r) = r.none_moved p b k st
    by_header i q2 st a (ripen d o n r) = let was = ap (λ v. header (word_at s.geometry q v)) a ∙ o in cc

    stood : IsTable s.geometry q t → place_in s.geometry q t p ≡ Full Moved b → (i : ℕ) × Exits s q t pr.key i × (header_in s.geometry q t ≡ SplittingAt i) → (i : ℕ) × Exits s (e ∷ q) t pr.key i × (header_in s.geometry (e ∷ q) t ≡ SplittingAt i)
    stood y st x = (x.0, exits_now x.0 y x.1, ⊎_elim (λ (z : header_in s.geometry (e ∷ q) t ≡ header_in s.geometry q t). z ∙ x.2) (λ z. absurd (by_header x.0 x.2 st z.1 z.2)) (header_cases s q e l.1 so t y))

    changed : IsTable s.geometry q t → slot_at t p ≡ e.at → SlotStep s q e t p → content e.new ≡ Full Moved b → (i : ℕ) × Exits s (e ∷ q) t pr.key i × (header_in s.geometry (e ∷ q) t ≡ SplittingAt i)
    changed y a (place c i o n row) v = absurd (cc)
    changed y a (drop c i o n) v = absurd (cc)
    changed y a (commit c i o n row) v = absurd (cc)
    changed y a (replace c d i o n x row) v = absurd (cc)
    changed y a (remove c i o n row) v = absurd (cc)
    changed y a (copy c i o n row) v = absurd (cc)
    changed y a (uncopy c i o n row) v = absurd (cc)
    changed y a (flip c i o n row) v =
        let st = row.word.stands in
        let old = ap (λ x. content (word_at s.geometry q x)) a ∙ o in
        let same = full_same Live Live row.body c (sym st ∙ old) ∙ full_same Moved Moved c b (sym n ∙ v) in
        let nm = standing_named s.geometry q so t p Live row.body y k st in
        let pk : pair_at s.geometry (e ∷ q) b ≡ Some row.pair = subst (λ x. pair_at s.geometry (e ∷ q) x ≡ Some row.pair) same (packs_kept s q e l.1 so ss row.body nm ∙ row.word.packs) in
        let key : row.pair.key ≡ pr.key = pairs pk w.packs in (
          row.level,
          exits_now row.level y (subst (λ x. Exits s q t x row.level) key row.leaving),
          ⊎_elim (λ (z : header_in s.geometry (e ∷ q) t ≡ header_in s.geometry q t). z ∙ row.splits) (λ z. absurd (by_slot a z.1)) (header_cases s q e l.1 so t y),
        )
      where
        pairs : {o : Option Pair} {x y : Pair} → o ≡ Some x → o ≡ Some y → x.key ≡ y.key
        pairs h k = cc

        by_slot : slot_at t p ≡ e.at → header_at t ≡ e.at → ⊥
        by_slot a b = omega arith
    changed y a (settle c i o n row) v = absurd (cc)
    changed y a (clear c i o n row) v = absurd (cc)

-- what is a candidate in a table on the chain stays one
pub candidate_later : (s : Setting) {p q : Past} → Before p q → Legal s q → (t r : ℕ) (key : List ℕ) → IsCandidate s p t r key → IsCandidate s q t r key
candidate_later s b l t r key x = record { candidate = x.candidate; chain = chain_before s b l (hash s key) t x.chain }

mark_of : (m n : Mark) (b c : Body) → Full m b ≡ Full n c → m ≡ n
mark_of m n b c h = cc

module _ (s : Setting) (q : Past) (e : Entry) (l : Legal s (e ∷ q)) (ih : (x : Past) → Before x q → (t p : ℕ) (mk : Mark) (b : Body) (pr : Pair) → IsTable s.geometry x t → IsPlace s.geometry p → Word s.geometry x mk t p b pr → IsCandidate s x t p pr.key) (t p : ℕ) (h : IsTable s.geometry q t) (k : IsPlace s.geometry p) where
  so : Sound s.geometry q
  so = sound s q l.0

  ss : (x : Past) → Before x q → Sound s.geometry x
  ss x b = sounds s x q b l.0

  on : slot_at t p ≡ e.at → role s.geometry q e.at ≡ SlotWord t p
  on z = ap (role s.geometry q) (sym z) ∙ slot_is s.geometry q so t p h k

  grown : (key : List ℕ) → IsCandidate s q t p key → IsCandidate s (e ∷ q) t p key
  grown key x = candidate_later s (later {e = e} here) l t p key x

  pair_key : {o : Option Pair} {x y : Pair} → o ≡ Some x → o ≡ Some y → x.key ≡ y.key
  pair_key h k = cc

  -- a word of a block that stood in this slot, or elsewhere, before
  same_block : (mk m2 : Mark) (b c : Body) (pr : Pair) → place_in s.geometry q t p ≡ Full m2 c → content e.new ≡ Full mk c → content e.new ≡ Full mk b → pair_at s.geometry (e ∷ q) b ≡ Some pr → IsCandidate s (e ∷ q) t p pr.key
  same_block mk m2 b c pr st n v pk =
      let nm = standing_named s.geometry q so t p m2 c h k st in
      let same = full_same mk mk c b (sym n ∙ v) in
      let pc : pair_at s.geometry q c ≡ Some pr = sym (packs_kept s q e l.1 so ss c nm) ∙ ap (pair_at s.geometry (e ∷ q)) same ∙ pk in
      grown pr.key (ih q here t p m2 c pr h k (record { stands = st; packs = pc }))

  -- the place of a holder that is live
  held : {key : List ℕ} {c : Body} (b : Body) (pr : Pair) → Holder s q key t p b pr → place_in s.geometry q t p ≡ Full Live c → IsCandidate s q t p key
  held b pr (live u r y g w kk ca ch) st = record { candidate = ca; chain = ch }
  held b pr (copied u r y g w kk ca ta tp mo) st = let zz = w.stands in absurd (cc)

  fresh_candidate : (mk : Mark) (b c : Body) (pc pr : Pair) → slot_at t p ≡ e.at → IsCandidate s q t p pc.key → IsFresh s q e.client c pc → content e.new ≡ Full mk c → content e.new ≡ Full mk b → pair_at s.geometry (e ∷ q) b ≡ Some pr → IsCandidate s (e ∷ q) t p pr.key
  fresh_candidate mk b c pc pr z own f n v pk =
      let same = full_same mk mk c b (sym n ∙ v) in
      let key : pc.key ≡ pr.key = pair_key (fresh_packs s q e l.0 l.1 so ss t p e.client c pc (on z) f) (ap (pair_at s.geometry (e ∷ q)) same ∙ pk) in
      subst (IsCandidate s (e ∷ q) t p) key (grown pc.key own)

  copy_candidate : (b : Body) (pr : Pair) → CopyRow s q e t p → content e.new ≡ Full Copied b → pair_at s.geometry (e ∷ q) b ≡ Some pr → IsCandidate s (e ∷ q) t p pr.key
  copy_candidate b pr row v pk =
      let wl = row.live in
      let from = ih wl.at wl.before (birth_in s.geometry q t).parent p Live row.body wl.pair wl.table k wl.live in
      let parent = table_before s.geometry wl.before _ _ wl.table in
      let nm = standing_named s.geometry wl.at (ss wl.at wl.before) (birth_in s.geometry q t).parent p Live row.body wl.table k wl.live.stands in
      let pq : pair_at s.geometry q row.body ≡ Some wl.pair = packs_later s wl.before l.0 row.body nm ∙ wl.live.packs in
      let nq = named_at s wl.before l.0 row.body nm in
      let same = full_same Copied Copied row.body b (sym row.word ∙ v) in
      let key : wl.pair.key ≡ pr.key = pair_key (packs_kept s q e l.1 so ss row.body nq ∙ pq) (ap (pair_at s.geometry (e ∷ q)) same ∙ pk) in
      let above = chain_before s wl.before l.0 (hash s wl.pair.key) (birth_in s.geometry q t).parent from.chain in
      let exits = exits_later s wl.before l.0 (birth_in s.geometry q t).parent row.level wl.pair.key wl.table wl.leaving in
      let gone : IsGone (header_in s.geometry q (birth_in s.geometry q t).parent) row.level = subst (λ x. IsGone x row.level) (sym row.splits) (at_most row.level) in
      let child = is_child row parent in
      subst (IsCandidate s (e ∷ q) t p) key (grown wl.pair.key (record { candidate = from.candidate; chain = goes_on (birth_in s.geometry q t).parent row.level t above exits gone child (table_some s.geometry q so t h) }))
    where
      at_most : (n : ℕ) → n ≤ n
      at_most n = omega arith

      is_child : (row : CopyRow s q e t p) → IsTable s.geometry q (birth_in s.geometry q t).parent → child_in s.geometry q (birth_in s.geometry q t).parent row.level ≡ t
      is_child row parent = ⊎_elim (λ (x : IsFirst s.geometry q t). absurd (table_some s.geometry q so (birth_in s.geometry q t).parent parent x.parent))
          (λ (x : Kin s.geometry q t). ap (child_in s.geometry q (birth_in s.geometry q t).parent) (levels row.born x.born) ∙ x.is_child) ((splits s q l.0).kin t h)
        where
          levels : {n i j : ℕ} → n ≡ i + 1 → n ≡ j + 1 → i ≡ j
          levels x y = omega arith

  candidate_changed : (mk : Mark) (b : Body) (pr : Pair) → slot_at t p ≡ e.at → SlotStep s q e t p → content e.new ≡ Full mk b → pair_at s.geometry (e ∷ q) b ≡ Some pr → IsCandidate s (e ∷ q) t p pr.key
  candidate_changed mk b pr z (place c i o n row) v pk = let m = mark_of Pending mk row.body b (sym row.word ∙ v) in fresh_candidate Pending b row.body row.pair pr z row.slot row.fresh row.word (v ∙ ap (λ x. Full x b) (sym m)) pk
  candidate_changed mk b pr z (drop c i o n) v pk = absurd (cc)
  candidate_changed mk b pr z (commit c i o n row) v pk = let m = mark_of Live mk c b (sym n ∙ v) in same_block Live Pending b c pr (ap (λ x. content (word_at s.geometry q x)) z ∙ o) n (v ∙ ap (λ x. Full x b) (sym m)) pk
  candidate_changed mk b pr z (replace c d i o n x row) v pk = let m = mark_of Live mk row.new_body b (sym row.word ∙ v) in let own = subst (IsCandidate s q t p) (sym row.same_key) (held row.body row.pair row.holder (ap (λ x. content (word_at s.geometry q x)) z ∙ o)) in fresh_candidate Live b row.new_body row.new_pair pr z own row.fresh row.word (v ∙ ap (λ x. Full x b) (sym m)) pk
  candidate_changed mk b pr z (remove c i o n row) v pk = absurd (cc)
  candidate_changed mk b pr z (copy c i o n row) v pk = let m = mark_of Copied mk row.body b (sym row.word ∙ v) in copy_candidate b pr row (v ∙ ap (λ x. Full x b) (sym m)) pk
  candidate_changed mk b pr z (uncopy c i o n row) v pk = absurd (cc)
  candidate_changed mk b pr z (flip c i o n row) v pk = let m = mark_of Moved mk c b (sym n ∙ v) in same_block Moved Live b c pr (ap (λ x. content (word_at s.geometry q x)) z ∙ o) n (v ∙ ap (λ x. Full x b) (sym m)) pk
  candidate_changed mk b pr z (settle c i o n row) v pk = let m = mark_of Live mk c b (sym n ∙ v) in same_block Live Copied b c pr (ap (λ x. content (word_at s.geometry q x)) z ∙ o) n (v ∙ ap (λ x. Full x b) (sym m)) pk
  candidate_changed mk b pr z (clear c i o n row) v pk = absurd (cc)

  candidate_step : (mk : Mark) (b : Body) (pr : Pair) → Word s.geometry (e ∷ q) mk t p b pr → IsCandidate s (e ∷ q) t p pr.key
  candidate_step mk b pr w = ⊎_elim
      (λ (x : place_in s.geometry (e ∷ q) t p ≡ place_in s.geometry q t p).
      let st = sym x ∙ w.stands in
      let nm = standing_named s.geometry q so t p mk b h k st in
      grown pr.key (ih q here t p mk b pr h k (record { stands = st; packs = sym (packs_kept s q e l.1 so ss b nm) ∙ w.packs })))
      (λ x. candidate_changed mk b pr x.1 x.2 (sym x.0 ∙ w.stands) w.packs)
      (slot_cases s q e l.1 so t h p k)

pub word_candidate : (s : Setting) (q : Past) → Legal s q → (x : Past) → Before x q → (t p : ℕ) (mk : Mark) (b : Body) (pr : Pair) → IsTable s.geometry x t → IsPlace s.geometry p → Word s.geometry x mk t p b pr → IsCandidate s x t p pr.key
word_candidate s [] l x here t p mk b pr h k w = let y = opening_empty_slot s.geometry t p h k in let v = w.stands in absurd (cc)
word_candidate s (e ∷ q) l x here t p mk b pr h k w = ⊎_elim
    (λ (y : IsTable s.geometry q t). candidate_step s q e l (word_candidate s q l.0) t p y k mk b pr w)
    (λ y. let z = ap (λ v. place_in s.geometry (e ∷ q) v p) y.0 ∙ new_slot s q e l.0 l.1 y.1 p k in let v = w.stands in absurd (cc))
    (new_table s q e l.0 l.1 t h)
word_candidate s (e ∷ q) l x (later b2) t p mk b pr h k w = word_candidate s q l.0 x b2 t p mk b pr h k w
