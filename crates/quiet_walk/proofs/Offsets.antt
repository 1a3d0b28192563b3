-- Words of a table by their offsets, as they are quiet or not.
use Rattle.std.specs.Prelude.{◌≡◌, ◌≢◌, ℕ, ◌+◌, ◌*◌, ◌/◌, ◌%◌, ◌<◌, ◌==◌, ◌↔◌, IsTrue, Bool, true, false, cond, Some, refl}
use Rattle.std.proofs.Common.{sym, ◌∙◌, ap, subst, arith}
use Rattle.std.proofs.lemmas.Bool.Decides.{nat_tests}
use Rattle.slot_word.specs.declared.slots.Mark.{Mark}
use Rattle.slot_word.specs.declared.slots.Mark.TheVariants.{Live}
use Rattle.slot_word.specs.declared.slots.Slot.{Slot}
use Rattle.slot_word.specs.Slots.{slot_of}
use Rattle.node_words.specs.declared.geometry.Geometry.{Geometry}
use Rattle.node_words.specs.Roles.{Role, NextWord, DepthWord, DirectoryWord, BirthWord, HeaderWord, LockWord, ReservedWord, ChildWord, BucketWord, SlotWord, HeapWord, offset_role}
use Rattle.node_words.proofs.RoleLemmas.{header_place, lock_place, slot_place, bucket_place}
use Rattle.verb_log.specs.Decoded.{Body, Empty, Full, content, content_of, header}
use Rattle.race_laws.specs.Standing.{IsPlain}
use Rattle.image_laws.specs.declared.table.ImageTable.{ImageTable}
use Rattle.image_laws.specs.Walk.{Words, TableWord}
use Rattle.image_laws.specs.Quiet.{QuietAs, QuietAt}
use Rattle.image_laws.proofs.Offsets.{off_header, off_lock, off_slot, off_bucket, bucket_of}

-- the content of a word that is not 0
some_content : (word : ℕ) (slot : Slot) → word ≢ 0 → slot_of word ≡ Some slot → content word ≡ Full slot.mark (record { print = slot.fp; length = slot.len; at = slot.at })
unfolding content
some_content word slot n e = by (word == 0) refl
  where
    zero_is : (x : ℕ) → (x == 0) ≡ true → x ≡ 0
    zero_is x h = grind (arith, nat_tests)

    by : (v : Bool) → (word == 0) ≡ v → cond v Empty (content_of (slot_of word)) ≡ Full slot.mark (record { print = slot.fp; length = slot.len; at = slot.at })
    by true h = absurd (n (zero_is word h))
    by false h = ap content_of e

pub settled : (word : ℕ) (slot : Slot) (v : Bool) → word ≢ 0 → slot_of word ≡ Some slot → (IsTrue v ↔ (slot.mark ≡ Live)) → IsTrue v ↔ ((m : Mark) (b : Body) → content word ≡ Full m b → m ≡ Live)
settled word slot v n e h = (λ a m b f. same m b (h.0 a) (sym f ∙ some_content word slot n e), λ f. h.1 (f slot.mark (record { print = slot.fp; length = slot.len; at = slot.at }) (some_content word slot n e)))
  where
    same : (m : Mark) (b : Body) → slot.mark ≡ Live → Full m b ≡ Full slot.mark (record { print = slot.fp; length = slot.len; at = slot.at }) → m ≡ Live
    same m b p q = cc

is_zero : (x : ℕ) → IsTrue (x == 0) ↔ (x ≡ 0)
is_zero x = (λ h. grind (arith, nat_tests), λ h. grind (arith, nat_tests))

module _ (g : Geometry) (w : Words) (t : ImageTable) (o x : ℕ) (e : x ≡ w (t.at + o)) where
  by_role : (v : Bool) (r : Role) → offset_role t.at o ≡ r → (IsTrue v ↔ QuietAs w (t.at + o) r) → IsTrue v ↔ QuietAt w (TableWord t o)
  by_role v r f h = (λ a. subst (QuietAs w (t.at + o)) (sym f) (h.0 a), λ a. h.1 (subst (QuietAs w (t.at + o)) f a))

  pub header_quiet : o ≡ 1 → (v : Bool) → (IsTrue v ↔ IsPlain (header x)) → IsTrue v ↔ QuietAt w (TableWord t o)
  header_quiet o1 v h = by_role v (HeaderWord t.at) (ap (offset_role t.at) o1 ∙ off_header g t.at) (subst (λ z. IsTrue v ↔ IsPlain (header z)) e h)

  pub lock_quiet : o ≡ 2 → IsTrue (x == 0) ↔ QuietAt w (TableWord t o)
  lock_quiet o2 = by_role (x == 0) (LockWord t.at) (ap (offset_role t.at) o2 ∙ off_lock g t.at) (subst (λ z. IsTrue (x == 0) ↔ (z ≡ 0)) e (is_zero x))

  pub slot_quiet : (p : ℕ) → o ≡ 20 + p → p % 8 ≢ 0 → (v : Bool) → (IsTrue v ↔ ((m : Mark) (b : Body) → content x ≡ Full m b → m ≡ Live)) → IsTrue v ↔ QuietAt w (TableWord t o)
  slot_quiet p f n v h = by_role v (SlotWord t.at p) (ap (offset_role t.at) f ∙ off_slot g t.at p n) (subst (λ z. IsTrue v ↔ ((m : Mark) (b : Body) → content z ≡ Full m b → m ≡ Live)) e h)

  pub bucket_quiet : (p : ℕ) → o ≡ 20 + p → p % 8 ≡ 0 → p % 24 ≢ 8 → (v : Bool) → (IsTrue v ↔ IsPlain (header x)) → IsTrue v ↔ QuietAt w (TableWord t o)
  bucket_quiet p f z n v h = by_role v (BucketWord t.at (bucket_of p)) (ap (offset_role t.at) f ∙ off_bucket g t.at p z n) (subst (λ z. IsTrue v ↔ IsPlain (header z)) e h)

-- words that are quiet whatever they are
module _ (w : Words) (t : ImageTable) (o : ℕ) (n1 : o ≢ 1) (n2 : o ≢ 2) (slot : (p : ℕ) → o ≡ 20 + p → p % 8 ≢ 0 → ⊥) (bucket : (m : ℕ) → o ≡ 20 + 24 * (m / 2) + 16 * (m % 2) → ⊥) where
  always : (r : Role) → offset_role t.at o ≡ r → QuietAs w (t.at + o) r
  always (HeaderWord u) e = absurd (n1 (header_place t.at o u e).1)
  always (LockWord u) e = absurd (n2 (lock_place t.at o u e).1)
  always (BucketWord u m) e = absurd (bucket m (bucket_place t.at o u m e).1)
  always (SlotWord u p) e = let q = slot_place t.at o u p e in absurd (slot p q.1 q.2)
  always (NextWord k) e = tt
  always DepthWord e = tt
  always (DirectoryWord j) e = tt
  always (BirthWord u) e = tt
  always ReservedWord e = tt
  always (ChildWord u i) e = tt
  always HeapWord e = tt

  quiet_always : QuietAt w (TableWord t o)
  quiet_always = always (offset_role t.at o) refl

pub low_quiet : (w : Words) (t : ImageTable) (o : ℕ) → o ≢ 1 → o ≢ 2 → o < 20 → IsTrue true ↔ QuietAt w (TableWord t o)
low_quiet w t o n1 n2 h = (λ a. quiet_always w t o n1 n2 (λ p e n. omega arith) (λ m e. omega arith), λ a. refl)

pub overflow_quiet : (w : Words) (t : ImageTable) (o p : ℕ) → o ≡ 20 + p → p % 24 ≡ 8 → IsTrue true ↔ QuietAt w (TableWord t o)
overflow_quiet w t o p e h = (λ a. quiet_always w t o (λ z. omega arith) (λ z. omega arith) (λ q f n. n (slots p q (omega arith) h)) (λ m f. buckets p (m / 2) m (omega arith) h), λ a. refl)
  where
    slots : (p q : ℕ) → p ≡ q → p % 24 ≡ 8 → q % 8 ≡ 0
    slots p q e h = omega arith

    buckets : (p k m : ℕ) → p ≡ 24 * k + 16 * (m % 2) → p % 24 ≡ 8 → ⊥
    buckets p k m e h = omega arith
