-- What an entry on one word leaves of the others, by the roles of their words. On every legal log.
use Rattle.std.specs.Prelude.{◌≡◌, ℕ, ◌*◌, ◌<◌, ◌∷◌}
use Rattle.std.proofs.Common.{sym, ◌∙◌, ap}
use Rattle.node_words.specs.Addresses.{header_at, lock_at, child_at, slot_at, bucket_header_at}
use Rattle.node_words.specs.Roles.{Role, HeaderWord, LockWord, ChildWord, BucketWord, SlotWord}
use Rattle.verb_log.specs.declared.entry.Entry.{Entry}
use Rattle.verb_log.specs.Decoded.{header}
use Rattle.verb_log.specs.Tables.{Past, word_at, role}
use Rattle.race_laws.specs.Setting.{Setting}
use Rattle.race_laws.specs.Standing.{IsTable, header_in, lock_in, child_in, bucket_in}
use Rattle.race_laws.specs.Rows.{IsPlace}
use Rattle.race_laws.specs.Legal.{Legal}
use Rattle.race_laws.proofs.Touch.{word_kept}
use Rattle.race_laws.proofs.Sound.{Sound}
use Rattle.race_laws.proofs.SoundStep.{sound}
use Rattle.race_laws.proofs.Slots.{slot_is}
use Rattle.race_laws.proofs.Frames.{header_is, lock_is, child_is, bucket_is}

-- a word of another role is as it was
pub word_apart : (s : Setting) (q : Past) (e : Entry) (a : ℕ) (r r2 : Role) → role s.geometry q a ≡ r → role s.geometry q e.at ≡ r2 → (r ≡ r2 → ⊥) → word_at s.geometry (e ∷ q) a ≡ word_at s.geometry q a
word_apart s q e a r r2 h k n = word_kept s.geometry q e a (λ z. n (sym h ∙ ap (role s.geometry q) z ∙ k))

-- an entry on a word of this role, of which the words of tables are apart
module _ (s : Setting) (q : Past) (e : Entry) (l : Legal s (e ∷ q)) (r : Role) (on : role s.geometry q e.at ≡ r) where
  so : Sound s.geometry q
  so = sound s q l.0

  pub header_same : (t : ℕ) → IsTable s.geometry q t → (HeaderWord t ≡ r → ⊥) → header_in s.geometry (e ∷ q) t ≡ header_in s.geometry q t
  header_same t h n = ap header (word_apart s q e (header_at t) (HeaderWord t) r (header_is s.geometry q so t h) on n)

  pub lock_same : (t : ℕ) → IsTable s.geometry q t → (LockWord t ≡ r → ⊥) → lock_in s.geometry (e ∷ q) t ≡ lock_in s.geometry q t
  lock_same t h n = word_apart s q e (lock_at t) (LockWord t) r (lock_is s.geometry q so t h) on n

  pub child_same : (t i : ℕ) → IsTable s.geometry q t → i < 16 → (ChildWord t i ≡ r → ⊥) → child_in s.geometry (e ∷ q) t i ≡ child_in s.geometry q t i
  child_same t i h k n = word_apart s q e (child_at t i) (ChildWord t i) r (child_is s.geometry q so t h i k) on n

  pub bucket_same : (t m : ℕ) → IsTable s.geometry q t → m < 2 * s.geometry.groups → (BucketWord t m ≡ r → ⊥) → bucket_in s.geometry (e ∷ q) t m ≡ bucket_in s.geometry q t m
  bucket_same t m h k n = ap header (word_apart s q e (bucket_header_at t m) (BucketWord t m) r (bucket_is s.geometry q so t h m k) on n)

  pub slot_same : (t p : ℕ) → IsTable s.geometry q t → IsPlace s.geometry p → (SlotWord t p ≡ r → ⊥) → word_at s.geometry (e ∷ q) (slot_at t p) ≡ word_at s.geometry q (slot_at t p)
  slot_same t p h k n = word_apart s q e (slot_at t p) (SlotWord t p) r (slot_is s.geometry q so t p h k) on n

pub slot_role_is : (t u p r : ℕ) → SlotWord t p ≡ SlotWord u r → (t ≡ u) × (p ≡ r)
slot_role_is t u p r h = (cc, cc)
