-- Each legal entry keeps what is said of a table's depth, birth, parent and child words.
use Rattle.std.specs.Prelude.{◌≡◌, ◌≢◌, ℕ, ◌+◌, ◌^◌, ◌<◌, ◌≤◌, ◌∷◌, ◌⊎◌, refl}
use Rattle.std.proofs.Common.{sym, ◌∙◌, ap, subst, inl, inr, arith, ⊎_elim}
use Rattle.slot_word.specs.declared.births.Birth.{Birth}
use Rattle.node_words.specs.Addresses.{first_table, child_at}
use Rattle.verb_log.specs.declared.entry.Entry.{Entry}
use Rattle.verb_log.specs.Decoded.{Header, PlainAt, SplittingAt, FillingAt, NoHeader, header}
use Rattle.verb_log.specs.Tables.{Past}
use Rattle.race_laws.specs.Setting.{Setting}
use Rattle.race_laws.specs.Standing.{IsTable, header_in, birth_in, child_in, depth, IsFilling}
use Rattle.race_laws.specs.Legal.{Meets, Legal}
use Rattle.race_laws.proofs.Step.{HeaderStep, open_it, finish, ripen}
use Rattle.race_laws.proofs.Touch.{word_put, table_stays}
use Rattle.race_laws.proofs.Sound.{Sound, table_some as table_at}
use Rattle.race_laws.proofs.SoundStep.{sound}
use Rattle.race_laws.proofs.Frames.{birth_kept, header_cases, child_cases, child_stays}
use Rattle.race_laws.proofs.Finality.{GoesOn, opens, finishes, ripens, deeper_on, header_next}
use Rattle.race_laws.proofs.Splits.{IsFirst, Born, Kin, Splits, Linked, linked_at, new_table, new_birth, new_header, new_child}

-- headers that differ are no header twice
goes_valid : {h k : Header} → GoesOn h k → k ≢ NoHeader
goes_valid (opens d p q) x = cc
goes_valid (finishes d p q) x = cc
goes_valid (ripens d p q) x = cc

goes_not_filling : {h k : Header} → GoesOn h k → (d : ℕ) → k ≢ FillingAt d
goes_not_filling (opens d p q) x y = cc
goes_not_filling (finishes d p q) x y = cc
goes_not_filling (ripens d p q) x y = cc

pub filling_depth : (h : Header) → IsFilling h → h ≡ FillingAt (depth h)
filling_depth (PlainAt d) x = absurd x
filling_depth (SplittingAt d) x = absurd x
filling_depth (FillingAt d) x = refl
filling_depth NoHeader x = absurd x

module _ (s : Setting) (past : Past) (e : Entry) (l : Legal s past) (m : Meets s past e) (sp : Splits s.geometry past) where
  pub sound_now : Sound s.geometry past
  sound_now = sound s past l

  header_of_new : Linked s past e → (t : ℕ) → t ≡ e.new → (i : ℕ) → (header_in s.geometry (e ∷ past) e.new ≡ FillingAt i) → header_in s.geometry (e ∷ past) t ≡ FillingAt i
  header_of_new k t q i h = ap (header_in s.geometry (e ∷ past)) q ∙ h

  pub new_filling : (k : Linked s past e) (t : ℕ) → t ≡ e.new → header_in s.geometry (e ∷ past) t ≡ FillingAt (k.level + 1)
  new_filling k t q = ap (header_in s.geometry (e ∷ past)) q ∙ new_header s past e l m k ∙ k.row.newborn.head

  pub new_level : (k : Linked s past e) (t : ℕ) → t ≡ e.new → (birth_in s.geometry (e ∷ past) t).depth ≡ k.level + 1
  new_level k t q = ap (λ v. (birth_in s.geometry (e ∷ past) v).depth) q ∙ ap (λ (b : Birth). b.depth) (new_birth s past e l m k) ∙ k.row.newborn.birth_depth

  pub old_birth : (t : ℕ) → IsTable s.geometry past t → birth_in s.geometry (e ∷ past) t ≡ birth_in s.geometry past t
  old_birth t h = birth_kept s past e m sound_now t h

  pub valid_step : (t : ℕ) → IsTable s.geometry (e ∷ past) t → header_in s.geometry (e ∷ past) t ≢ NoHeader
  valid_step t h = ⊎_elim
      (λ (x : IsTable s.geometry past t). ⊎_elim (λ (y : header_in s.geometry (e ∷ past) t ≡ header_in s.geometry past t). λ z. sp.valid t x (sym y ∙ z)) (λ y. goes_valid y) (header_next s past e m sound_now t x))
      (λ x. λ z. let y = new_filling x.1 t x.0 in absurd (cc)) (new_table s past e l m t h)

  deep_on : {h k : Header} → GoesOn h k → ((d : ℕ) → h ≡ SplittingAt d → d < s.geometry.max_depth) → depth h ≤ s.geometry.max_depth → depth k ≤ s.geometry.max_depth
  deep_on (opens d p q) below x = let y = ap depth p in let z = ap depth q in omega arith
  deep_on (finishes d p q) below x = let y = below d p in let z = ap depth q in omega arith
  deep_on (ripens d p q) below x = let y = ap depth p in let z = ap depth q in omega arith

  pub deep_step : (t : ℕ) → IsTable s.geometry (e ∷ past) t → depth (header_in s.geometry (e ∷ past) t) ≤ s.geometry.max_depth
  deep_step t h = ⊎_elim
      (λ (x : IsTable s.geometry past t). let d = sp.deep t x in ⊎_elim (λ (y : header_in s.geometry (e ∷ past) t ≡ header_in s.geometry past t). let z = ap depth y in omega arith)
      (λ y. deep_on y (λ d q. (sp.splitting t d x q).0) d) (header_next s past e m sound_now t x))
      (λ x. let y = ap depth (new_filling x.1 t x.0) in let z = x.1.row.below in omega arith) (new_table s past e l m t h)

  pub from_step : (t : ℕ) → IsTable s.geometry (e ∷ past) t → (birth_in s.geometry (e ∷ past) t).depth ≤ depth (header_in s.geometry (e ∷ past) t)
  from_step t h = ⊎_elim
      (λ (x : IsTable s.geometry past t).
      let d = sp.from t x in
      let b = ap (λ (b : Birth). b.depth) (old_birth t x) in
      ⊎_elim (λ (y : header_in s.geometry (e ∷ past) t ≡ header_in s.geometry past t). let z = ap depth y in omega arith)
      (λ y. let z = deeper_on y in omega arith) (header_next s past e m sound_now t x))
      (λ x. let y = ap depth (new_filling x.1 t x.0) in let z = new_level x.1 t x.0 in omega arith) (new_table s past e l m t h)

  pub first_step : (t d : ℕ) → IsTable s.geometry (e ∷ past) t → header_in s.geometry (e ∷ past) t ≡ FillingAt d → d ≡ (birth_in s.geometry (e ∷ past) t).depth
  first_step t d h f = ⊎_elim
      (λ (x : IsTable s.geometry past t). ⊎_elim
      (λ (y : header_in s.geometry (e ∷ past) t ≡ header_in s.geometry past t). sp.first t d x (sym y ∙ f) ∙ sym (ap (λ (b : Birth). b.depth) (old_birth t x)))
      (λ y. absurd (goes_not_filling y d f)) (header_next s past e m sound_now t x))
      (λ x. let y = ap depth (sym f ∙ new_filling x.1 t x.0) in let z = new_level x.1 t x.0 in omega arith) (new_table s past e l m t h)

  -- a child word of the log one longer
  pub kept_child : (t i : ℕ) → IsTable s.geometry past t → i < 16 → child_in s.geometry past t i ≢ 0 → child_in s.geometry (e ∷ past) t i ≢ 0
  kept_child t i h k n z = n (sym (child_stays s past e m sound_now t h i k n) ∙ z)

  level_small : (i : ℕ) → i < s.geometry.max_depth → i < 16
  level_small i h = let d = s.geometry.deep in omega arith

  -- an opening of a table's header
  pub splitting_step : (t d : ℕ) → IsTable s.geometry (e ∷ past) t → header_in s.geometry (e ∷ past) t ≡ SplittingAt d → (d < s.geometry.max_depth) × (child_in s.geometry (e ∷ past) t d ≢ 0)
  splitting_step t d h f = ⊎_elim
      (λ (x : IsTable s.geometry past t). ⊎_elim
      (λ (y : header_in s.geometry (e ∷ past) t ≡ header_in s.geometry past t). let z = sp.splitting t d x (sym y ∙ f) in (z.0, kept_child t d x (level_small d z.0) z.1))
      (λ y. by t d x (sym y.0 ∙ f) y.2) (header_cases s past e m sound_now t x))
      (λ x. let y = new_filling x.1 t x.0 in absurd (cc)) (new_table s past e l m t h)
    where
      by : (t d : ℕ) → IsTable s.geometry past t → header e.new ≡ SplittingAt d → HeaderStep s past e t → (d < s.geometry.max_depth) × (child_in s.geometry (e ∷ past) t d ≢ 0)
      by t d x f (open_it c p q r) =
          let same : c ≡ d = ap depth (sym q ∙ f) in
          let old : depth (header e.old) ≡ d = ap depth (ap header (sym m.stands) ∙ p) ∙ same in
          let low : d < s.geometry.max_depth = subst (λ v. v < s.geometry.max_depth) old r.below in
          (low, kept_child t d x (level_small d low) (subst (λ v. child_in s.geometry past t v ≢ 0) old r.linked))
      by t d x f (finish c p q r) = absurd (cc)
      by t d x f (ripen c p q r) = absurd (cc)

  -- a child of a table stays its child
  born_kept : (t i c : ℕ) → IsTable s.geometry past t → Born s.geometry past t i c → Born s.geometry (e ∷ past) t i c
  born_kept t i c h b =
      let bc = old_birth c b.table in
      let bt = old_birth t h in
      record {
        table = table_stays s.geometry past e c c b.table;
        level = ap (λ (b : Birth). b.depth) bc ∙ b.level;
        suffix = ap (λ (b : Birth). b.suffix) bc ∙ b.suffix ∙ ap (λ (b : Birth). b.suffix + 2 ^ i) (sym bt);
        parent = ap (λ (b : Birth). b.parent) bc ∙ b.parent;
      }

  new_born : (k : Linked s past e) → Born s.geometry (e ∷ past) k.table k.level e.new
  new_born k =
      let bc = new_birth s past e l m k in
      let bt = old_birth k.table k.is_table in
      record {
        table = k.now;
        level = ap (λ (b : Birth). b.depth) bc ∙ k.row.newborn.birth_depth;
        suffix = ap (λ (b : Birth). b.suffix) bc ∙ k.row.newborn.birth_suffix ∙ ap (λ (b : Birth). b.suffix + 2 ^ k.level) (sym bt);
        parent = ap (λ (b : Birth). b.parent) bc ∙ k.row.newborn.birth_parent;
      }

  pub born_step : (t i c : ℕ) → IsTable s.geometry (e ∷ past) t → i < 16 → child_in s.geometry (e ∷ past) t i ≡ c → c ≢ 0 → Born s.geometry (e ∷ past) t i c
  born_step t i c h k q n = ⊎_elim
      (λ (x : IsTable s.geometry past t). ⊎_elim
      (λ (y : child_in s.geometry (e ∷ past) t i ≡ child_in s.geometry past t i). born_kept t i c x (sp.born t i c x k (sym y ∙ q) n))
      (λ y. let z = linked_at s past e l m t i x k y.1 y.2 y.3 y.4 in
      subst (Born s.geometry (e ∷ past) t i) (sym y.0 ∙ q) (subst (λ v. Born s.geometry (e ∷ past) t v e.new) z.2 (subst (λ v. Born s.geometry (e ∷ past) v z.0.level e.new) z.1 (new_born z.0))))
      (child_cases s past e m sound_now t x i k))
      (λ x. absurd (n (sym q ∙ ap (λ v. child_in s.geometry (e ∷ past) v i) x.0 ∙ new_child s past e l m x.1 i k)))
      (new_table s past e l m t h)

  pub table_some : (t : ℕ) → IsTable s.geometry past t → t ≢ 0
  table_some t h = table_at s.geometry past sound_now t h

  pub kin_kept : (c : ℕ) → IsTable s.geometry past c → Kin s.geometry past c → Kin s.geometry (e ∷ past) c
  kin_kept c h k =
      let b = old_birth c h in
      let parent : (birth_in s.geometry (e ∷ past) c).parent ≡ (birth_in s.geometry past c).parent = ap (λ (x : Birth). x.parent) b in
      let small = level_small k.level k.below in
      let some : child_in s.geometry past (birth_in s.geometry past c).parent k.level ≢ 0 = λ z. table_some c h (sym k.is_child ∙ z) in
      record {
        level = k.level;
        below = k.below;
        table = subst (IsTable s.geometry (e ∷ past)) (sym parent) (table_stays s.geometry past e _ _ k.table);
        born = ap (λ (x : Birth). x.depth) b ∙ k.born;
        is_child = ap (λ v. child_in s.geometry (e ∷ past) v k.level) parent ∙ child_stays s past e m sound_now (birth_in s.geometry past c).parent k.table k.level small some ∙ k.is_child;
      }

  new_kin : (k : Linked s past e) → Kin s.geometry (e ∷ past) e.new
  new_kin k =
      let b = new_born k in
      record {
        level = k.level;
        below = k.row.below;
        table = subst (IsTable s.geometry (e ∷ past)) (sym b.parent) (table_stays s.geometry past e _ _ k.is_table);
        born = b.level;
        is_child = ap (λ v. child_in s.geometry (e ∷ past) v k.level) b.parent ∙ word_put s.geometry past e (child_at k.table k.level) k.at;
      }

  first_kept : (c : ℕ) → IsTable s.geometry past c → IsFirst s.geometry past c → IsFirst s.geometry (e ∷ past) c
  first_kept c h f =
      let b = old_birth c h in
      record {
        inside = f.inside;
        level = ap (λ (x : Birth). x.depth) b ∙ f.level;
        is = f.is ∙ ap (λ (x : Birth). first_table s.geometry x.suffix) (sym b);
        parent = ap (λ (x : Birth). x.parent) b ∙ f.parent;
      }

  pub kin_step : (c : ℕ) → IsTable s.geometry (e ∷ past) c → IsFirst s.geometry (e ∷ past) c ⊎ Kin s.geometry (e ∷ past) c
  kin_step c h = ⊎_elim
      (λ (x : IsTable s.geometry past c). ⊎_elim (λ (y : IsFirst s.geometry past c). inl (first_kept c x y)) (λ (y : Kin s.geometry past c). inr (kin_kept c x y)) (sp.kin c x))
      (λ x. inr (subst (Kin s.geometry (e ∷ past)) (sym x.0) (new_kin x.1))) (new_table s past e l m c h)
