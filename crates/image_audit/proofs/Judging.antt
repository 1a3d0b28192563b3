-- Words that name no table and hold no pair, as an audit judges them.
use Rattle.std.specs.Prelude.{◌≡◌, ◌≢◌, ℕ, ◌+◌, ◌*◌, ◌/◌, ◌%◌, ◌<◌, ◌≤◌, ◌==◌, ◌↔◌, IsTrue, Bool, true, false, List, [], Some, ◌⊎◌, refl}
use Rattle.std.proofs.Common.{sym, ◌∙◌, ap, subst, inl, inr, arith, ⊎_elim}
use Rattle.std.proofs.lemmas.Bool.Decides.{nat_tests}
use Rattle.slot_word.specs.Births.{birth_word}
use Rattle.node_words.specs.declared.geometry.Geometry.{Geometry}
use Rattle.node_words.specs.Addresses.{header_at}
use Rattle.node_words.specs.Roles.{Role, BirthWord, HeaderWord, LockWord, ReservedWord, BucketWord, role_in, offset_role}
use Rattle.node_words.proofs.OpeningWords.{in_table}
use Rattle.node_words.proofs.RoleLemmas.{reserved_role, overflow_role}
use Rattle.verb_log.specs.Decoded.{Header, PlainAt, SplittingAt, FillingAt, NoHeader, header}
use Rattle.race_laws.specs.Setting.{Setting}
use Rattle.race_laws.proofs.Touch.{same_or_not}
use Rattle.image_laws.specs.declared.table.ImageTable.{ImageTable}
use Rattle.image_laws.specs.Walk.{Words, named_as, WalkWord, TableWord}
use Rattle.image_laws.specs.Sound.{held_as, HeaderRule, TableRule, PlainRule}
use Rattle.image_laws.proofs.Offsets.{off_birth, off_header, off_lock, off_bucket, bucket_of}
use Rattle.image_audit.specs.Held.{Blocks}
use Rattle.image_audit.specs.Kept.{Judged, IsPlainWithin}
use Rattle.image_audit.proofs.Children.{kept_on}

off_reserved : (g : Geometry) (t : ℕ) → offset_role t 3 ≡ ReservedWord
off_reserved g t = sym (in_table g t 3) ∙ reserved_role g t

off_overflow : (g : Geometry) (t p : ℕ) → p % 24 ≡ 8 → offset_role t (20 + p) ≡ ReservedWord
off_overflow g t p h = sym (in_table g t (20 + p)) ∙ ap (λ a. role_in g a (Some t)) (place t p (p / 24) (parts p h)) ∙ overflow_role g t (p / 24)
  where
    parts : (p : ℕ) → p % 24 ≡ 8 → p ≡ 24 * (p / 24) + 8
    parts p h = omega arith

    place : (t p k : ℕ) → p ≡ 24 * k + 8 → t + (20 + p) ≡ t + 20 + (24 * k + 8)
    place t p k e = omega arith

is_same : (x y : ℕ) → (x == y) ≡ true → x ≡ y
is_same x y h = grind (arith, nat_tests)

not_same : (x y : ℕ) → (x == y) ≡ false → x ≢ y
not_same x y h = grind (arith, nat_tests)

module _ (s : Setting) (w : Words) (place : ℕ → ℕ) (cells : ℕ) (t : ImageTable) (o : ℕ) (ts : List ImageTable) (ms : List Bool) (m : Blocks) where
  by_role : (v : Bool) (r : Role) → offset_role t.at o ≡ r → named_as w t r ≡ [] → held_as w t r ≡ [] → (v ≡ true → (before : List WalkWord) → TableRule s w before t r × PlainRule w t o r) → (v ≡ false → (before : List WalkWord) → TableRule s w before t r → PlainRule w t o r → ⊥) → Judged s w place cells (TableWord t o) v ts ms m ts ms m
  by_role v r e n h good bad before k = (
    (λ x. (subst (λ z. TableRule s w before t z × PlainRule w t o z) (sym e) (good x before), kept_on s w place cells before (TableWord t o) ts ms m k (ap (named_as w t) e ∙ n) (ap (held_as w t) e ∙ h))),
    (λ x y. bad x before (subst (TableRule s w before t) e y.0) (subst (PlainRule w t o) e y.1)),
  )

  pub birth_judged : o ≡ 0 → (x y : ℕ) → x ≡ w (t.at + o) → y ≡ birth_word (record { depth = t.depth; suffix = t.suffix; parent = t.parent }) → Judged s w place cells (TableWord t o) (x == y) ts ms m ts ms m
  birth_judged oz x y xe ye = by_role (x == y) (BirthWord t.at) (ap (offset_role t.at) oz ∙ off_birth s.geometry t.at) refl refl (λ h before. (sym at ∙ is_same x y h ∙ ye, tt)) (λ h before r q. not_same x y h (at ∙ r ∙ sym ye))
    where
      at : x ≡ w t.at
      at = xe ∙ ap w (plus t.at o oz)
        where
          plus : (a o : ℕ) → o ≡ 0 → a + o ≡ a
          plus a o e = omega arith

  pub header_judged : o ≡ 1 → (v : Bool) (x to : ℕ) → x ≡ w (t.at + o) → to ≡ s.geometry.max_depth → (IsTrue v ↔ IsPlainWithin t.depth to (header x)) → Judged s w place cells (TableWord t o) v ts ms m ts ms m
  header_judged o1 v x to xe te e = by_role v (HeaderWord t.at) (ap (offset_role t.at) o1 ∙ off_header s.geometry t.at) refl refl
      (λ h before. (rule (header x) refl (e.0 h), tt)) (λ h before r q. let y = e.1 (within r) in cc)
    where
      at : x ≡ w (header_at t.at)
      at = xe ∙ ap (λ v. w (t.at + v)) o1

      rule : (hd : Header) → header x ≡ hd → IsPlainWithin t.depth to hd → HeaderRule s.geometry w t
      rule (PlainAt d) f y = record { depth = d; plain = ap header (sym at) ∙ f; from = y.0; to = subst (λ v. d ≤ v) te y.1 }
      rule (SplittingAt d) f y = absurd y
      rule (FillingAt d) f y = absurd y
      rule NoHeader f y = absurd y

      within : HeaderRule s.geometry w t → IsPlainWithin t.depth to (header x)
      within r = subst (IsPlainWithin t.depth to) (sym (ap header at ∙ r.plain)) (r.from, subst (λ v. r.depth ≤ v) (sym te) r.to)

  pub zero_word_judged : (r : Role) → offset_role t.at o ≡ r → (r ≡ ReservedWord) ⊎ (r ≡ LockWord t.at) → (x : ℕ) → x ≡ w (t.at + o) → Judged s w place cells (TableWord t o) (x == 0) ts ms m ts ms m
  zero_word_judged r e (inl z) x xe = by_role (x == 0) ReservedWord (e ∙ z) refl refl (λ h before. (tt, sym xe ∙ is_same x 0 h)) (λ h before y q. not_same x 0 h (xe ∙ q))
  zero_word_judged r e (inr z) x xe = by_role (x == 0) (LockWord t.at) (e ∙ z) refl refl (λ h before. (tt, sym xe ∙ is_same x 0 h)) (λ h before y q. not_same x 0 h (xe ∙ q))

  pub low_judged : o ≢ 0 → o ≢ 1 → o < 4 → (x : ℕ) → x ≡ w (t.at + o) → Judged s w place cells (TableWord t o) (x == 0) ts ms m ts ms m
  low_judged n0 n1 h x xe = ⊎_elim (λ (e : o ≡ 2). zero_word_judged (LockWord t.at) (ap (offset_role t.at) e ∙ off_lock s.geometry t.at) (inr refl) x xe)
      (λ (n : o ≢ 2). zero_word_judged ReservedWord (ap (offset_role t.at) (last o n0 n1 n h) ∙ off_reserved s.geometry t.at) (inl refl) x xe) (same_or_not o 2)
    where
      last : (o : ℕ) → o ≢ 0 → o ≢ 1 → o ≢ 2 → o < 4 → o ≡ 3
      last o a b c d = omega arith

  pub overflow_judged : (p : ℕ) → o ≡ 20 + p → p % 24 ≡ 8 → (x : ℕ) → x ≡ w (t.at + o) → Judged s w place cells (TableWord t o) (x == 0) ts ms m ts ms m
  overflow_judged p e h x xe = zero_word_judged ReservedWord (ap (offset_role t.at) e ∙ off_overflow s.geometry t.at p h) (inl refl) x xe

  pub bucket_judged : (p : ℕ) → o ≡ 20 + p → p % 8 ≡ 0 → p % 24 ≢ 8 → (x y : ℕ) → x ≡ w (t.at + o) → y ≡ w (header_at t.at) → Judged s w place cells (TableWord t o) (x == y) ts ms m ts ms m
  bucket_judged p e h k x y xe ye = by_role (x == y) (BucketWord t.at (bucket_of p)) (ap (offset_role t.at) e ∙ off_bucket s.geometry t.at p h k) refl refl (λ z before. (tt, sym xe ∙ is_same x y z ∙ ye)) (λ z before r q. not_same x y z (xe ∙ q ∙ sym ye))

-- a word named by another offset
pub judged_at : (s : Setting) (w : Words) (place : ℕ → ℕ) (cells : ℕ) (t : ImageTable) (o p : ℕ) (v : Bool) (ts us : List ImageTable) (ms ns : List Bool) (m n : Blocks) → p ≡ o → Judged s w place cells (TableWord t p) v ts ms m us ns n → Judged s w place cells (TableWord t o) v ts ms m us ns n
judged_at s w place cells t o p v ts us ms ns m n e j = subst (λ z. Judged s w place cells (TableWord t z) v ts ms m us ns n) e j
