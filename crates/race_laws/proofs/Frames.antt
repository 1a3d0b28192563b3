-- The words of a table of the log, and what an entry may do to each.
use Rattle.std.specs.Prelude.{◌≡◌, ◌≢◌, ℕ, ◌+◌, ◌*◌, ◌<◌, ◌∷◌, Some, ◌⊎◌, refl}
use Rattle.std.proofs.Common.{sym, ◌∙◌, ap, inl, inr, arith, ⊎_elim}
use Rattle.node_words.specs.declared.geometry.Geometry.{Geometry}
use Rattle.node_words.specs.Addresses.{table_words, header_at, lock_at, child_at, slot_at, bucket_header_at}
use Rattle.node_words.specs.Roles.{BirthWord, HeaderWord, LockWord, ChildWord, BucketWord, SlotWord, role_in}
use Rattle.node_words.proofs.RoleLemmas.{birth_role, header_role, lock_role, child_role, bucket_role}
use Rattle.verb_log.specs.declared.entry.Entry.{Entry}
use Rattle.verb_log.specs.Decoded.{header, birth, content}
use Rattle.verb_log.specs.Tables.{Past, Before, here, later, word_at, table_of, role}
use Rattle.race_laws.specs.Setting.{Setting}
use Rattle.race_laws.specs.Standing.{IsTable, header_in, birth_in, lock_in, child_in, bucket_in, place_in}
use Rattle.race_laws.specs.Rows.{IsPlace, LinkRow}
use Rattle.race_laws.specs.Legal.{Meets, Legal}
use Rattle.race_laws.proofs.Step.{SlotStep, HeaderStep, BucketStep, LockStep}
use Rattle.race_laws.proofs.Touch.{word_put, touched}
use Rattle.verb_log.specs.Fits.{IsAddress}
use Rattle.race_laws.proofs.Sound.{Sound, judged_is}
use Rattle.race_laws.proofs.SoundStep.{sound}
use Rattle.race_laws.proofs.Covers.{table_before}
use Rattle.race_laws.proofs.Slots.{slot_is}

module _ (g : Geometry) (past : Past) (so : Sound g past) (t : ℕ) (h : IsTable g past t) where
  inside : (o : ℕ) → o < table_words g → table_of g past (t + o) ≡ Some t
  inside o k = so.whole t t h (t + o) (omega arith) (omega arith)

  pub birth_is : role g past t ≡ BirthWord t
  birth_is = ap (role_in g t) h ∙ birth_role g t

  pub header_is : role g past (header_at t) ≡ HeaderWord t
  header_is = ap (role_in g (header_at t)) (inside 1 (omega arith)) ∙ header_role g t

  pub lock_is : role g past (lock_at t) ≡ LockWord t
  lock_is = ap (role_in g (lock_at t)) (inside 2 (omega arith)) ∙ lock_role g t

  pub child_is : (i : ℕ) → i < 16 → role g past (child_at t i) ≡ ChildWord t i
  child_is i k = ap (role_in g (child_at t i)) (so.whole t t h (child_at t i) (omega arith) (omega arith)) ∙ child_role g t i k

  pub bucket_is : (m : ℕ) → m < 2 * g.groups → role g past (bucket_header_at t m) ≡ BucketWord t m
  bucket_is m k = ap (role_in g (bucket_header_at t m)) (so.whole t t h (bucket_header_at t m) (omega arith) (within m k)) ∙ bucket_role g t m
    where
      within : (m : ℕ) → m < 2 * g.groups → bucket_header_at t m < t + table_words g
      within m k = omega arith

-- what an entry does to the words of a table: nothing, or one of its steps
module _ (s : Setting) (past : Past) (e : Entry) (m : Meets s past e) (so : Sound s.geometry past) (t : ℕ) (h : IsTable s.geometry past t) where
  pub birth_kept : birth_in s.geometry (e ∷ past) t ≡ birth_in s.geometry past t
  birth_kept = ap birth (⊎_elim (λ (x : word_at s.geometry (e ∷ past) t ≡ word_at s.geometry past t). x) (λ x. absurd x.1) (touched s past e t (BirthWord t) m (judged_is s.geometry past so t ∙ birth_is s.geometry past so t h)))

  pub header_cases : (header_in s.geometry (e ∷ past) t ≡ header_in s.geometry past t) ⊎ ((header_in s.geometry (e ∷ past) t ≡ header e.new) × (header_at t ≡ e.at) × HeaderStep s past e t)
  header_cases = ⊎_elim (λ (x : word_at s.geometry (e ∷ past) (header_at t) ≡ word_at s.geometry past (header_at t)). inl (ap header x))
      (λ x. inr (ap header (word_put s.geometry past e (header_at t) x.0), x.0, x.1)) (touched s past e (header_at t) (HeaderWord t) m (judged_is s.geometry past so (header_at t) ∙ header_is s.geometry past so t h))

  pub bucket_cases : (n : ℕ) → n < 2 * s.geometry.groups → (bucket_in s.geometry (e ∷ past) t n ≡ bucket_in s.geometry past t n) ⊎ ((bucket_in s.geometry (e ∷ past) t n ≡ header e.new) × (bucket_header_at t n ≡ e.at) × BucketStep s past e t)
  bucket_cases n k = ⊎_elim (λ (x : word_at s.geometry (e ∷ past) (bucket_header_at t n) ≡ word_at s.geometry past (bucket_header_at t n)). inl (ap header x))
      (λ x. inr (ap header (word_put s.geometry past e (bucket_header_at t n) x.0), x.0, x.1)) (touched s past e (bucket_header_at t n) (BucketWord t n) m (judged_is s.geometry past so (bucket_header_at t n) ∙ bucket_is s.geometry past so t h n k))

  pub lock_cases : (lock_in s.geometry (e ∷ past) t ≡ lock_in s.geometry past t) ⊎ ((lock_in s.geometry (e ∷ past) t ≡ e.new) × (lock_at t ≡ e.at) × LockStep s past e t)
  lock_cases = ⊎_elim (λ (x : word_at s.geometry (e ∷ past) (lock_at t) ≡ word_at s.geometry past (lock_at t)). inl x)
      (λ x. inr (word_put s.geometry past e (lock_at t) x.0, x.0, x.1)) (touched s past e (lock_at t) (LockWord t) m (judged_is s.geometry past so (lock_at t) ∙ lock_is s.geometry past so t h))

  pub child_cases : (i : ℕ) → i < 16 → (child_in s.geometry (e ∷ past) t i ≡ child_in s.geometry past t i) ⊎ ((child_in s.geometry (e ∷ past) t i ≡ e.new) × (child_at t i ≡ e.at) × (child_in s.geometry past t i ≡ 0) × IsAddress s.geometry e.new × LinkRow s.geometry past e t i)
  child_cases i k = ⊎_elim (λ (x : word_at s.geometry (e ∷ past) (child_at t i) ≡ word_at s.geometry past (child_at t i)). inl x)
      (λ x. inr (word_put s.geometry past e (child_at t i) x.0, x.0, ap (word_at s.geometry past) x.0 ∙ x.1.0, x.1.1, x.1.2)) (touched s past e (child_at t i) (ChildWord t i) m (judged_is s.geometry past so (child_at t i) ∙ child_is s.geometry past so t h i k))

  pub slot_cases : (p : ℕ) → IsPlace s.geometry p → (place_in s.geometry (e ∷ past) t p ≡ place_in s.geometry past t p) ⊎ ((place_in s.geometry (e ∷ past) t p ≡ content e.new) × (slot_at t p ≡ e.at) × SlotStep s past e t p)
  slot_cases p k = ⊎_elim (λ (x : word_at s.geometry (e ∷ past) (slot_at t p) ≡ word_at s.geometry past (slot_at t p)). inl (ap content x))
      (λ x. inr (ap content (word_put s.geometry past e (slot_at t p) x.0), x.0, x.1)) (touched s past e (slot_at t p) (SlotWord t p) m (judged_is s.geometry past so (slot_at t p) ∙ slot_is s.geometry past so t p h k))

  -- a child word that is set stays
  pub child_stays : (i : ℕ) → i < 16 → child_in s.geometry past t i ≢ 0 → child_in s.geometry (e ∷ past) t i ≡ child_in s.geometry past t i
  child_stays i k n = ⊎_elim (λ (x : child_in s.geometry (e ∷ past) t i ≡ child_in s.geometry past t i). x) (λ x. absurd (n x.2)) (child_cases i k)

-- the birth of a table is the same at every later position
pub birth_before : (s : Setting) {p q : Past} → Before p q → Legal s q → (t : ℕ) → IsTable s.geometry p t → birth_in s.geometry q t ≡ birth_in s.geometry p t
birth_before s here l t h = refl
birth_before s {p = p} (later {q = q} {e = e} b) l t h = birth_kept s q e l.1 (sound s q l.0) t (table_before s.geometry b t t h) ∙ birth_before s b l.0 t h

pub child_before : (s : Setting) {p q : Past} → Before p q → Legal s q → (t i : ℕ) → IsTable s.geometry p t → i < 16 → child_in s.geometry p t i ≢ 0 → child_in s.geometry q t i ≡ child_in s.geometry p t i
child_before s here l t i h k n = refl
child_before s {p = p} (later {q = q} {e = e} b) l t i h k n =
    let x = child_before s b l.0 t i h k n in
    child_stays s q e l.1 (sound s q l.0) t (table_before s.geometry b t t h) i k (λ z. n (sym x ∙ z)) ∙ x
