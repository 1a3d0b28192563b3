-- A key that has left a table has left it for good, and a table that does not fill never fills again.
use Rattle.std.specs.Prelude.{◌≡◌, ℕ, ◌+◌, ◌*◌, ◌<◌, ◌≤◌, ◌∷◌, ◌⊎◌}
use Rattle.std.proofs.Common.{sym, ◌∙◌, ap, subst, inl, inr, arith, ⊎_elim}
use Rattle.verb_log.specs.declared.entry.Entry.{Entry}
use Rattle.verb_log.specs.Decoded.{Header, PlainAt, SplittingAt, FillingAt, header}
use Rattle.verb_log.specs.Tables.{Past, Before, here, later, word_at}
use Rattle.race_laws.specs.Setting.{Setting}
use Rattle.race_laws.specs.Standing.{IsTable, header_in, bucket_in, depth, IsFilling, IsGone}
use Rattle.race_laws.specs.Splits.{IsOpen}
use Rattle.race_laws.specs.Legal.{Meets, Legal}
use Rattle.race_laws.proofs.Step.{HeaderStep, open_it, finish, ripen, BucketStep, begin, close, ripen_bucket}
use Rattle.race_laws.proofs.Sound.{Sound}
use Rattle.race_laws.proofs.SoundStep.{sound}
use Rattle.race_laws.proofs.Covers.{table_before}
use Rattle.race_laws.proofs.Frames.{header_cases, bucket_cases}

-- how a header word goes on: from h to k
pub data GoesOn (h k : Header) : Type 0 where
  opens : (d : ℕ) → h ≡ PlainAt d → k ≡ SplittingAt d → GoesOn h k
  finishes : (d : ℕ) → h ≡ SplittingAt d → k ≡ PlainAt (d + 1) → GoesOn h k
  ripens : (d : ℕ) → h ≡ FillingAt d → k ≡ PlainAt d → GoesOn h k

pub gone_on : {h k : Header} → GoesOn h k → (i : ℕ) → IsGone h i → IsGone k i
gone_on (opens d p q) i x = subst (λ v. IsGone v i) (sym q) (less (subst (λ v. IsGone v i) p x))
  where
    less : i < d → i ≤ d
    less h = omega arith
gone_on (finishes d p q) i x = subst (λ v. IsGone v i) (sym q) (less (subst (λ v. IsGone v i) p x))
  where
    less : i ≤ d → i < d + 1
    less h = omega arith
gone_on (ripens d p q) i x = subst (λ v. IsGone v i) (sym q) (subst (λ v. IsGone v i) p x)

pub filling_on : {h k : Header} → GoesOn h k → IsFilling k → IsFilling h
filling_on (opens d p q) x = absurd (subst IsFilling q x)
filling_on (finishes d p q) x = absurd (subst IsFilling q x)
filling_on (ripens d p q) x = absurd (subst IsFilling q x)

pub deeper_on : {h k : Header} → GoesOn h k → depth h ≤ depth k
deeper_on (opens d p q) = let x = ap depth p in let y = ap depth q in omega arith
deeper_on (finishes d p q) = let x = ap depth p in let y = ap depth q in omega arith
deeper_on (ripens d p q) = let x = ap depth p in let y = ap depth q in omega arith

pub open_on : {h k : Header} → GoesOn h k → (d : ℕ) → IsOpen h d → IsOpen k d
open_on (opens e p q) d x = subst (λ v. IsOpen v d) (sym q) (less (subst (λ v. IsOpen v d) p x))
  where
    less : d < e → d ≤ e
    less h = omega arith
open_on (finishes e p q) d x = subst (λ v. IsOpen v d) (sym q) (less (subst (λ v. IsOpen v d) p x))
  where
    less : d ≤ e → d < e + 1
    less h = omega arith
open_on (ripens e p q) d x = subst (λ v. IsOpen v d) (sym q) (subst (λ v. IsOpen v d) p x)

-- each step of a header and of a bucket header is one of these
pub header_goes : (s : Setting) (past : Past) (e : Entry) (t : ℕ) → HeaderStep s past e t → (h k : Header) → header (word_at s.geometry past e.at) ≡ h → header e.new ≡ k → GoesOn h k
header_goes s past e t (open_it d p q r) h k x y = opens d (sym x ∙ p) (sym y ∙ q)
header_goes s past e t (finish d p q r) h k x y = finishes d (sym x ∙ p) (sym y ∙ q)
header_goes s past e t (ripen d p q r) h k x y = ripens d (sym x ∙ p) (sym y ∙ q)

pub bucket_goes : (s : Setting) (past : Past) (e : Entry) (t : ℕ) → BucketStep s past e t → (h k : Header) → header (word_at s.geometry past e.at) ≡ h → header e.new ≡ k → GoesOn h k
bucket_goes s past e t (begin d p q r) h k x y = opens d (sym x ∙ p) (sym y ∙ q)
bucket_goes s past e t (close d p q r) h k x y = finishes d (sym x ∙ p) (sym y ∙ q)
bucket_goes s past e t (ripen_bucket d p q r) h k x y = ripens d (sym x ∙ p) (sym y ∙ q)

-- the header of a table after an entry: the same, or gone on
pub header_next : (s : Setting) (past : Past) (e : Entry) → Meets s past e → Sound s.geometry past → (t : ℕ) → IsTable s.geometry past t → (header_in s.geometry (e ∷ past) t ≡ header_in s.geometry past t) ⊎ GoesOn (header_in s.geometry past t) (header_in s.geometry (e ∷ past) t)
header_next s past e m so t h = ⊎_elim (λ (x : header_in s.geometry (e ∷ past) t ≡ header_in s.geometry past t). inl x)
    (λ x. inr (header_goes s past e t x.2 (header_in s.geometry past t) (header_in s.geometry (e ∷ past) t) (ap (λ a. header (word_at s.geometry past a)) (sym x.1)) (sym x.0)))
    (header_cases s past e m so t h)

pub bucket_next : (s : Setting) (past : Past) (e : Entry) → Meets s past e → Sound s.geometry past → (t n : ℕ) → IsTable s.geometry past t → n < 2 * s.geometry.groups → (bucket_in s.geometry (e ∷ past) t n ≡ bucket_in s.geometry past t n) ⊎ GoesOn (bucket_in s.geometry past t n) (bucket_in s.geometry (e ∷ past) t n)
bucket_next s past e m so t n h k = ⊎_elim (λ (x : bucket_in s.geometry (e ∷ past) t n ≡ bucket_in s.geometry past t n). inl x)
    (λ x. inr (bucket_goes s past e t x.2 (bucket_in s.geometry past t n) (bucket_in s.geometry (e ∷ past) t n) (ap (λ a. header (word_at s.geometry past a)) (sym x.1)) (sym x.0)))
    (bucket_cases s past e m so t h n k)

-- what every GoesOn keeps is kept of a table's header, and of its bucket headers
pub header_keeps : (s : Setting) (P : Header → Type 0) → ((h k : Header) → GoesOn h k → P h → P k) → {p q : Past} → Before p q → Legal s q → (t : ℕ) → IsTable s.geometry p t → P (header_in s.geometry p t) → P (header_in s.geometry q t)
header_keeps s P step here l t h x = x
header_keeps s P step (later {q = q} {e = e} b) l t h x =
    let y = header_keeps s P step b l.0 t h x in
    ⊎_elim (λ (z : header_in s.geometry (e ∷ q) t ≡ header_in s.geometry q t). subst P (sym z) y) (λ z. step _ _ z y)
    (header_next s q e l.1 (sound s q l.0) t (table_before s.geometry b t t h))

pub bucket_keeps : (s : Setting) (P : Header → Type 0) → ((h k : Header) → GoesOn h k → P h → P k) → {p q : Past} → Before p q → Legal s q → (t n : ℕ) → IsTable s.geometry p t → n < 2 * s.geometry.groups → P (bucket_in s.geometry p t n) → P (bucket_in s.geometry q t n)
bucket_keeps s P step here l t n h k x = x
bucket_keeps s P step (later {q = q} {e = e} b) l t n h k x =
    let y = bucket_keeps s P step b l.0 t n h k x in
    ⊎_elim (λ (z : bucket_in s.geometry (e ∷ q) t n ≡ bucket_in s.geometry q t n). subst P (sym z) y) (λ z. step _ _ z y)
    (bucket_next s q e l.1 (sound s q l.0) t n (table_before s.geometry b t t h) k)

-- finality
pub gone_before : (s : Setting) {p q : Past} → Before p q → Legal s q → (t i : ℕ) → IsTable s.geometry p t → IsGone (header_in s.geometry p t) i → IsGone (header_in s.geometry q t) i
gone_before s b l t i h x = header_keeps s (λ v. IsGone v i) (λ h k z. gone_on z i) b l t h x

pub bucket_gone_before : (s : Setting) {p q : Past} → Before p q → Legal s q → (t n i : ℕ) → IsTable s.geometry p t → n < 2 * s.geometry.groups → IsGone (bucket_in s.geometry p t n) i → IsGone (bucket_in s.geometry q t n) i
bucket_gone_before s b l t n i h k x = bucket_keeps s (λ v. IsGone v i) (λ h k z. gone_on z i) b l t n h k x

pub ripe_before : (s : Setting) {p q : Past} → Before p q → Legal s q → (t : ℕ) → IsTable s.geometry p t → (IsFilling (header_in s.geometry p t) → ⊥) → IsFilling (header_in s.geometry q t) → ⊥
ripe_before s b l t h x = header_keeps s (λ v. IsFilling v → ⊥) (λ h k z y f. y (filling_on z f)) b l t h x

pub deeper_before : (s : Setting) (n : ℕ) {p q : Past} → Before p q → Legal s q → (t : ℕ) → IsTable s.geometry p t → n ≤ depth (header_in s.geometry p t) → n ≤ depth (header_in s.geometry q t)
deeper_before s n b l t h x = header_keeps s (λ v. n ≤ depth v) (λ h k z y. let w = deeper_on z in omega arith) b l t h x

pub open_before : (s : Setting) {p q : Past} → Before p q → Legal s q → (t d : ℕ) → IsTable s.geometry p t → IsOpen (header_in s.geometry p t) d → IsOpen (header_in s.geometry q t) d
open_before s b l t d h x = header_keeps s (λ v. IsOpen v d) (λ h k z. open_on z d) b l t h x
