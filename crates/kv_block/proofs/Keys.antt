-- The comparisons of keys: only equal bytes tie.
use Rattle.std.proofs.Common.{◌≡◌, ◌∙◌, ℕ, true, List, sym}
use Rattle.std.specs.Ordering.{eq_by_cmp}
use Rattle.std.specs.Cmp.{IsTotalOrder, IsEquivalence}
use Rattle.std.specs.Cmp.Lexicographic.{nat_list_cmp_total, nat_list_eq_equiv, texts_ties}
use Rattle.std.specs.BTreeMap.{is_at}
use Rattle.std.specs.FinMap.{IsAntisymmetric, slice_cmp-IsAntisymmetric, nat_cmp-IsAntisymmetric}
use Rattle.std.proofs.lemmas.Slice.Eq.{bytes_eq-Decides}
use Rattle.kv_block.specs.Bytes.{key_cmp, key_eq}

-- the order of keys is total
pub key_cmp_total : IsTotalOrder key_cmp
key_cmp_total = nat_list_cmp_total

-- keys that tie in it are one
pub key_cmp-IsAntisymmetric : IsAntisymmetric key_cmp
key_cmp-IsAntisymmetric = slice_cmp-IsAntisymmetric nat_cmp-IsAntisymmetric

pub key_eq_equiv : IsEquivalence key_eq
key_eq_equiv = nat_list_eq_equiv

-- keys that are equal by their test are one
pub key_eq-is : (a b : List ℕ) → key_eq a b ≡ true → a ≡ b
key_eq-is a b e = (bytes_eq-Decides a b).0 e

pub key_eq-same : (a : List ℕ) → key_eq a a ≡ true
key_eq-same a = key_eq_equiv.refl a

-- the test and the order agree
pub key_ties : (a b : List ℕ) → key_eq a b ≡ eq_by_cmp key_cmp a b
key_ties a b = texts_ties a b

-- how an ordered map tests for a key
pub at_is : (key q : List ℕ) → is_at (key_cmp key) q ≡ key_eq q key
at_is key q = sym (key_ties key q) ∙ key_eq_equiv.symm key q
