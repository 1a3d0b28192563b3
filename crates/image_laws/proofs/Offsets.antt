-- The roles of a table's words, by their offset.
use Rattle.std.specs.Prelude.{◌≡◌, ◌≢◌, ℕ, ◌+◌, ◌*◌, ◌/◌, ◌%◌, ◌<◌, Some}
use Rattle.std.proofs.Common.{sym, ◌∙◌, ap, arith}
use Rattle.node_words.specs.declared.geometry.Geometry.{Geometry}
use Rattle.node_words.specs.Addresses.{child_at, slot_at}
use Rattle.node_words.specs.Roles.{BirthWord, HeaderWord, LockWord, ChildWord, BucketWord, SlotWord, role_in, offset_role}
use Rattle.node_words.proofs.OpeningWords.{in_table}
use Rattle.node_words.proofs.RoleLemmas.{birth_role, header_role, lock_role, child_role, slot_role, bucket_role, bucket_number}

pub off_birth : (g : Geometry) (t : ℕ) → offset_role t 0 ≡ BirthWord t
off_birth g t = sym (in_table g t 0) ∙ ap (λ a. role_in g a (Some t)) (plus t) ∙ birth_role g t
  where
    plus : (t : ℕ) → t + 0 ≡ t
    plus t = omega arith

pub off_header : (g : Geometry) (t : ℕ) → offset_role t 1 ≡ HeaderWord t
off_header g t = sym (in_table g t 1) ∙ header_role g t

pub off_lock : (g : Geometry) (t : ℕ) → offset_role t 2 ≡ LockWord t
off_lock g t = sym (in_table g t 2) ∙ lock_role g t

pub off_child : (g : Geometry) (t i : ℕ) → i < 16 → offset_role t (4 + i) ≡ ChildWord t i
off_child g t i h = sym (in_table g t (4 + i)) ∙ ap (λ a. role_in g a (Some t)) (plus t i) ∙ child_role g t i h
  where
    plus : (t i : ℕ) → t + (4 + i) ≡ child_at t i
    plus t i = omega arith

pub off_slot : (g : Geometry) (t p : ℕ) → p % 8 ≢ 0 → offset_role t (20 + p) ≡ SlotWord t p
off_slot g t p h = sym (in_table g t (20 + p)) ∙ ap (λ a. role_in g a (Some t)) (plus t p) ∙ slot_role g t p h
  where
    plus : (t p : ℕ) → t + (20 + p) ≡ slot_at t p
    plus t p = omega arith

-- the number of the bucket that begins at a place
abbrev pub bucket_of : ℕ → ℕ
bucket_of p = p / 24 * 2 + p % 24 / 16

pub off_bucket : (g : Geometry) (t p : ℕ) → p % 8 ≡ 0 → p % 24 ≢ 8 → offset_role t (20 + p) ≡ BucketWord t (bucket_of p)
off_bucket g t p h k = sym (in_table g t (20 + p)) ∙ ap (λ a. role_in g a (Some t)) (place t p (24 * (bucket_of p / 2) + 16 * (bucket_of p % 2)) (bucket_number p h k)) ∙ ap (λ a. role_in g a (Some t)) (same t (24 * (bucket_of p / 2)) (16 * (bucket_of p % 2))) ∙ bucket_role g t (bucket_of p)
  where
    place : (t p x : ℕ) → p ≡ x → t + (20 + p) ≡ t + (20 + x)
    place t p x e = omega arith

    same : (t x y : ℕ) → t + (20 + (x + y)) ≡ t + 20 + x + y
    same t x y = omega arith
