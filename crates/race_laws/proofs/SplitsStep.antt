-- Each legal entry keeps what is said of a table beside its buckets, its children and its copies.
use Rattle.std.specs.Prelude.{◌≡◌, ◌≢◌, ℕ, ◌+◌, ◌*◌, ◌<◌, ◌≤◌, ◌∷◌}
use Rattle.std.proofs.Common.{sym, ◌∙◌, ap, subst, arith, ⊎_elim}
use Rattle.slot_word.specs.declared.slots.Mark.TheVariants.{Copied}
use Rattle.slot_word.specs.declared.births.Birth.{Birth}
use Rattle.node_words.specs.Addresses.{header_at, slot_at}
use Rattle.verb_log.specs.declared.entry.Entry.{Entry}
use Rattle.verb_log.specs.Decoded.{Body, Full, content, SplittingAt, FillingAt, header}
use Rattle.verb_log.specs.Tables.{Past, word_at, role}
use Rattle.race_laws.specs.Setting.{Setting}
use Rattle.race_laws.specs.Standing.{IsTable, header_in, birth_in, child_in, bucket_in, place_in, depth, IsFilling, IsGone}
use Rattle.race_laws.specs.Rows.{IsPlace}
use Rattle.race_laws.specs.Legal.{Meets, Legal}
use Rattle.race_laws.proofs.Step.{SlotStep, place, drop, commit, replace, remove, copy, uncopy, flip, settle, clear, HeaderStep, open_it, finish, ripen}
use Rattle.race_laws.proofs.Touch.{same_or_not, word_kept}
use Rattle.race_laws.proofs.Sound.{table_some}
use Rattle.race_laws.proofs.Slots.{slot_is}
use Rattle.race_laws.proofs.SoundStep.{sound}
use Rattle.race_laws.proofs.Covers.{table_before}
use Rattle.race_laws.proofs.Frames.{header_is, header_cases, child_cases, slot_cases}
use Rattle.race_laws.proofs.Finality.{GoesOn, opens, finishes, ripens, gone_on, deeper_on, header_next, bucket_next}
use Rattle.race_laws.proofs.Splits.{IsFirst, Born, Kin, Under, Splits, linked_at, new_table, new_bucket, new_child, new_slot}
use Rattle.race_laws.proofs.TablesStep.{born_step, deep_step, first_step, from_step, kept_child, kin_kept, kin_step, new_filling, new_level, old_birth, splitting_step, valid_step}

module _ (s : Setting) (past : Past) (e : Entry) (l : Legal s past) (m : Meets s past e) (sp : Splits s.geometry past) where
  -- a bucket header after an entry shows at least the keys gone that it showed
  bucket_gone : (t n i : ℕ) → IsTable s.geometry past t → n < 2 * s.geometry.groups → IsGone (bucket_in s.geometry past t n) i → IsGone (bucket_in s.geometry (e ∷ past) t n) i
  bucket_gone t n i h k x = ⊎_elim (λ (y : bucket_in s.geometry (e ∷ past) t n ≡ bucket_in s.geometry past t n). subst (λ v. IsGone v i) (sym y) x) (λ y. gone_on y i x) (bucket_next s past e m (sound s past l) t n h k)

  heads_at : (t n i : ℕ) → IsTable s.geometry past t → n < 2 * s.geometry.groups → header_in s.geometry (e ∷ past) t ≡ header e.new → HeaderStep s past e t → header_at t ≡ e.at → IsGone (header_in s.geometry (e ∷ past) t) i → IsGone (bucket_in s.geometry past t n) i
  heads_at t n i h k q (open_it d o w r) a x =
      let old : depth (header e.old) ≡ d = ap depth (ap header (sym m.stands) ∙ o) in
      let bucket : bucket_in s.geometry past t n ≡ SplittingAt d = r.buckets n k ∙ ap SplittingAt old in
      subst (λ v. IsGone v i) (sym bucket) (subst (λ v. IsGone v i) (q ∙ w) x)
  heads_at t n i h k q (finish d o w r) a x =
      let was : header_in s.geometry past t ≡ SplittingAt d = ap (λ v. header (word_at s.geometry past v)) a ∙ o in
      sp.heads t n i h k (subst (λ v. IsGone v i) (sym was) (less (subst (λ v. IsGone v i) (q ∙ w) x)))
    where
      less : i < d + 1 → i ≤ d
      less h = omega arith
  heads_at t n i h k q (ripen d o w r) a x =
      let was : header_in s.geometry past t ≡ FillingAt d = ap (λ v. header (word_at s.geometry past v)) a ∙ o in
      sp.heads t n i h k (subst (λ v. IsGone v i) (sym was) (subst (λ v. IsGone v i) (q ∙ w) x))

  heads_step : (t n i : ℕ) → IsTable s.geometry (e ∷ past) t → n < 2 * s.geometry.groups → IsGone (header_in s.geometry (e ∷ past) t) i → IsGone (bucket_in s.geometry (e ∷ past) t n) i
  heads_step t n i h k x = ⊎_elim
      (λ (y : IsTable s.geometry past t). bucket_gone t n i y k (⊎_elim
      (λ (z : header_in s.geometry (e ∷ past) t ≡ header_in s.geometry past t). sp.heads t n i y k (subst (λ v. IsGone v i) z x))
      (λ z. heads_at t n i y k z.0 z.2 z.1 x) (header_cases s past e m (sound s past l) t y)))
      (λ y. let head = new_filling s past e l m sp y.1 t y.0 in
      let bucket : bucket_in s.geometry (e ∷ past) t n ≡ FillingAt (y.1.level + 1) = ap (λ v. bucket_in s.geometry (e ∷ past) v n) y.0 ∙ new_bucket s past e l m y.1 n k ∙ y.1.row.newborn.buckets n k in
      subst (λ v. IsGone v i) (head ∙ sym bucket) x)
      (new_table s past e l m t h)

  -- a table's header after an entry is no shallower
  no_shallower : (t : ℕ) → IsTable s.geometry past t → depth (header_in s.geometry past t) ≤ depth (header_in s.geometry (e ∷ past) t)
  no_shallower t h = ⊎_elim (λ (y : header_in s.geometry (e ∷ past) t ≡ header_in s.geometry past t). let z = ap depth y in omega arith) (λ y. deeper_on y) (header_next s past e m (sound s past l) t h)

  -- a filling table that ripens had a parent deep enough
  still_filling : (t i c : ℕ) → IsTable s.geometry past t → i < 16 → child_in s.geometry past t i ≡ c → c ≢ 0 → (i < depth (header_in s.geometry past t) → ⊥) → IsFilling (header_in s.geometry (e ∷ past) c)
  still_filling t i c h k q n x =
      let b = sp.born t i c h k q n in
      let f = sp.fills t i c h k q n x in
      ⊎_elim (λ (y : header_in s.geometry (e ∷ past) c ≡ header_in s.geometry past c). subst IsFilling (sym y) f) (λ y. by b f y.1 y.2) (header_cases s past e m (sound s past l) c b.table)
    where
      by : Born s.geometry past t i c → IsFilling (header_in s.geometry past c) → header_at c ≡ e.at → HeaderStep s past e c → IsFilling (header_in s.geometry (e ∷ past) c)
      by b f a (open_it d o w r) = absurd (subst IsFilling (ap (λ v. header (word_at s.geometry past v)) a ∙ o) f)
      by b f a (finish d o w r) = absurd (subst IsFilling (ap (λ v. header (word_at s.geometry past v)) a ∙ o) f)
      by b f a (ripen d o w r) =
          let was : header_in s.geometry past c ≡ FillingAt d = ap (λ v. header (word_at s.geometry past v)) a ∙ o in
          let birth = sp.first c d b.table was in
          let old : depth (header e.old) ≡ d = ap depth (ap header (sym m.stands) ∙ o) in
          let parent = r.ripens.parent in
          let here : depth (header_in s.geometry past (birth_in s.geometry past c).parent) ≡ depth (header_in s.geometry past t) = ap (λ v. depth (header_in s.geometry past v)) b.parent in
          let level = b.level in
          absurd (x (omega arith))

  fills_step : (t i c : ℕ) → IsTable s.geometry (e ∷ past) t → i < 16 → child_in s.geometry (e ∷ past) t i ≡ c → c ≢ 0 → (i < depth (header_in s.geometry (e ∷ past) t) → ⊥) → IsFilling (header_in s.geometry (e ∷ past) c)
  fills_step t i c h k q n x = ⊎_elim
      (λ (y : IsTable s.geometry past t). ⊎_elim
      (λ (z : child_in s.geometry (e ∷ past) t i ≡ child_in s.geometry past t i). still_filling t i c y k (sym z ∙ q) n (λ (w : i < depth (header_in s.geometry past t)). let d = no_shallower t y in x (omega arith)))
      (λ z. let k' = linked_at s past e l m t i y k z.1 z.2 z.3 z.4 in subst IsFilling (sym (new_filling s past e l m sp k'.0 c (sym q ∙ z.0))) tt)
      (child_cases s past e m (sound s past l) t y i k))
      (λ y. absurd (n (sym q ∙ ap (λ v. child_in s.geometry (e ∷ past) v i) y.0 ∙ new_child s past e l m y.1 i k)))
      (new_table s past e l m t h)

  upto_step : (t i : ℕ) → IsTable s.geometry (e ∷ past) t → i < 16 → child_in s.geometry (e ∷ past) t i ≢ 0 → ((birth_in s.geometry (e ∷ past) t).depth ≤ i) × (i ≤ depth (header_in s.geometry (e ∷ past) t))
  upto_step t i h k n = ⊎_elim
      (λ (y : IsTable s.geometry past t).
      let d = no_shallower t y in
      let b = ap (λ (x : Birth). x.depth) (old_birth s past e l m sp t y) in
      ⊎_elim
      (λ (z : child_in s.geometry (e ∷ past) t i ≡ child_in s.geometry past t i). let u = sp.upto t i y k (λ w. n (z ∙ w)) in (omega arith, omega arith))
      (λ z. let level = ap depth z.4.level in let f = sp.from t y in (omega arith, omega arith))
      (child_cases s past e m (sound s past l) t y i k))
      (λ y. absurd (n (ap (λ v. child_in s.geometry (e ∷ past) v i) y.0 ∙ new_child s past e l m y.1 i k)))
      (new_table s past e l m t h)

  all_below_at : (t i : ℕ) → IsTable s.geometry past t → (birth_in s.geometry past t).depth ≤ i → GoesOn (header_in s.geometry past t) (header_in s.geometry (e ∷ past) t) → i < depth (header_in s.geometry (e ∷ past) t) → child_in s.geometry past t i ≢ 0
  all_below_at t i h b (opens d p q) x = let y = ap depth p in let z = ap depth q in sp.all_below t i h b (omega arith)
  all_below_at t i h b (finishes d p q) x =
      let y = ap depth p in let z = ap depth q in
      ⊎_elim (λ (w : i ≡ d). subst (λ v. child_in s.geometry past t v ≢ 0) (sym w) (sp.splitting t d h p).1) (λ (w : i ≢ d). sp.all_below t i h b (omega arith)) (same_or_not i d)
  all_below_at t i h b (ripens d p q) x = let y = ap depth p in let z = ap depth q in sp.all_below t i h b (omega arith)

  all_below_step : (t i : ℕ) → IsTable s.geometry (e ∷ past) t → (birth_in s.geometry (e ∷ past) t).depth ≤ i → i < depth (header_in s.geometry (e ∷ past) t) → child_in s.geometry (e ∷ past) t i ≢ 0
  all_below_step t i h b x = ⊎_elim
      (λ (y : IsTable s.geometry past t).
      let same = ap (λ (x : Birth). x.depth) (old_birth s past e l m sp t y) in
      let from : (birth_in s.geometry past t).depth ≤ i = omega arith in
      let d = deep_step s past e l m sp t h in
      let g16 = s.geometry.deep in
      kept_child s past e l m sp t i y (omega arith) (⊎_elim
      (λ (z : header_in s.geometry (e ∷ past) t ≡ header_in s.geometry past t). let w = ap depth z in sp.all_below t i y from (omega arith))
      (λ z. all_below_at t i y from z x) (header_next s past e m (sound s past l) t y)))
      (λ y. let z = ap depth (new_filling s past e l m sp y.1 t y.0) in let w = new_level s past e l m sp y.1 t y.0 in absurd (omega arith))
      (new_table s past e l m t h)

  -- a copy's parent goes on splitting, unless the entry is on its header
  under_kept : (c : ℕ) → IsTable s.geometry past c → (u : Under s.geometry past c) → header_in s.geometry (e ∷ past) (birth_in s.geometry past c).parent ≡ header_in s.geometry past (birth_in s.geometry past c).parent → Under s.geometry (e ∷ past) c
  under_kept c h u q =
      let b = ap (λ (x : Birth). x.parent) (old_birth s past e l m sp c h) in
      by (kin_kept s past e l m sp c h u.kin) (same_level (kin_kept s past e l m sp c h u.kin) u.kin (ap (λ (x : Birth). x.depth) (old_birth s past e l m sp c h))) (ap (header_in s.geometry (e ∷ past)) b ∙ q ∙ u.splits)
    where
      same_level : (k : Kin s.geometry (e ∷ past) c) (j : Kin s.geometry past c) → (birth_in s.geometry (e ∷ past) c).depth ≡ (birth_in s.geometry past c).depth → k.level ≡ j.level
      same_level k j h = let x = k.born in let y = j.born in omega arith

      by : (k : Kin s.geometry (e ∷ past) c) → k.level ≡ u.kin.level → header_in s.geometry (e ∷ past) (birth_in s.geometry (e ∷ past) c).parent ≡ SplittingAt u.kin.level → Under s.geometry (e ∷ past) c
      by k x y = record { kin = k; splits = y ∙ ap SplittingAt (sym x) }

  -- the copy stands: its parent's split is not finished
  copy_stands : (c p : ℕ) (b : Body) → IsTable s.geometry past c → IsPlace s.geometry p → place_in s.geometry past c p ≡ Full Copied b → Under s.geometry (e ∷ past) c
  copy_stands c p b h k w =
      let u = sp.copies c p b h k w in
      let t = (birth_in s.geometry past c).parent in
      under_kept c h u (⊎_elim (λ (x : header_in s.geometry (e ∷ past) t ≡ header_in s.geometry past t). x) (λ x. absurd (by u x.1 x.2)) (header_cases s past e m (sound s past l) t u.kin.table))
    where
      by : (u : Under s.geometry past c) → header_at (birth_in s.geometry past c).parent ≡ e.at → HeaderStep s past e (birth_in s.geometry past c).parent → ⊥
      by u a (open_it d o x r) = let was = ap (λ v. header (word_at s.geometry past v)) a ∙ o in let y = u.splits in cc
      by u a (finish d o x r) =
          let level = ap depth u.splits in
          let child : r.child ≡ c = sym r.is_child.linked ∙ ap (child_in s.geometry past (birth_in s.geometry past c).parent) level ∙ u.kin.is_child in
          r.no_copy p b k (ap (λ v. place_in s.geometry past v p) child ∙ w)
      by u a (ripen d o x r) = let was = ap (λ v. header (word_at s.geometry past v)) a ∙ o in let y = u.splits in cc

  -- a copy that the entry puts there
  copied_now : (c p : ℕ) (b : Body) → IsTable s.geometry past c → slot_at c p ≡ e.at → IsPlace s.geometry p → SlotStep s past e c p → content e.new ≡ Full Copied b → Under s.geometry (e ∷ past) c
  copied_now c p b h a k (place d i o n row) w = absurd (cc)
  copied_now c p b h a k (drop d i o n) w = absurd (cc)
  copied_now c p b h a k (commit d i o n row) w = absurd (cc)
  copied_now c p b h a k (replace d f i o n x row) w = absurd (cc)
  copied_now c p b h a k (remove d i o n row) w = absurd (cc)
  copied_now c p b h a k (copy d i o n row) w =
      let parent = table_before s.geometry row.live.before _ _ row.live.table in
      ⊎_elim (λ (x : IsFirst s.geometry past c). absurd (table_some s.geometry past (sound s past l) (birth_in s.geometry past c).parent parent x.parent))
      (λ (x : Kin s.geometry past c).
      let level : row.level ≡ x.level = let y = row.born in let z = x.born in omega arith in
      under_kept c h (record { kin = x; splits = row.splits ∙ ap SplittingAt level }) (ap header (word_kept s.geometry past e (header_at (birth_in s.geometry past c).parent) (apart (birth_in s.geometry past c).parent parent))))
      (sp.kin c h)
    where
      apart : (t : ℕ) → IsTable s.geometry past t → header_at t ≢ e.at
      apart t x q =
          let y = header_is s.geometry past (sound s past l) t x in
          let z = slot_is s.geometry past (sound s past l) c p h k in
          let v = ap (role s.geometry past) (q ∙ sym a) in
          cc
  copied_now c p b h a k (uncopy d i o n row) w = absurd (cc)
  copied_now c p b h a k (flip d i o n row) w = absurd (cc)
  copied_now c p b h a k (settle d i o n row) w = absurd (cc)
  copied_now c p b h a k (clear d i o n row) w = absurd (cc)

  copies_step : (c p : ℕ) (b : Body) → IsTable s.geometry (e ∷ past) c → IsPlace s.geometry p → place_in s.geometry (e ∷ past) c p ≡ Full Copied b → Under s.geometry (e ∷ past) c
  copies_step c p b h k w = ⊎_elim
      (λ (x : IsTable s.geometry past c). ⊎_elim
      (λ (y : place_in s.geometry (e ∷ past) c p ≡ place_in s.geometry past c p). copy_stands c p b x k (sym y ∙ w))
      (λ y. copied_now c p b x y.1 k y.2 (sym y.0 ∙ w)) (slot_cases s past e m (sound s past l) c x p k))
      (λ x. let y = ap (λ v. place_in s.geometry (e ∷ past) v p) x.0 ∙ new_slot s past e l m x.1 p k in absurd (cc))
      (new_table s past e l m c h)

  pub splits_step : Splits s.geometry (e ∷ past)
  splits_step = record {
    valid = valid_step s past e l m sp;
    deep = deep_step s past e l m sp;
    from = from_step s past e l m sp;
    first = first_step s past e l m sp;
    splitting = splitting_step s past e l m sp;
    born = born_step s past e l m sp;
    kin = kin_step s past e l m sp;
    heads = heads_step;
    fills = fills_step;
    upto = upto_step;
    all_below = all_below_step;
    copies = copies_step;
  }
