-- Where a node's words may be taken from.
use Rattle.std.specs.Prelude.{◌≡◌, ◌≢◌, ℕ, ◌+◌, ◌-◌, ◌*◌, ◌%◌, ◌<◌, ◌≤◌, None}
use Rattle.std.proofs.Common.{sym, ◌∙◌, ap, arith, ⊎_elim}
use Rattle.std.proofs.lemmas.Bool.Decides.{nat_tests}
use Rattle.node_words.specs.declared.geometry.Geometry.{Geometry}
use Rattle.node_words.specs.Addresses.{node_size, node_of, node_at, first_free}
use Rattle.node_words.specs.Roles.{HeapWord, role_in, first_table_of}
use Rattle.node_words.proofs.Sizes.{first_free_fits, first_free_directory, first_free_low, node_at_is, node_at_high, node_of-div, node_is, node_at-0, node_size_range}
use Rattle.node_words.proofs.FirstTables.{first_none_high}
use Rattle.node_words.proofs.RoleLemmas.{heap_role}
use Rattle.race_laws.specs.Setting.{base}
use Rattle.race_laws.proofs.Touch.{same_or_not}

pub base-0 : (g : Geometry) (k : ℕ) → k ≡ 0 → base g k ≡ first_free g
base-0 g k h = grind (arith, nat_tests)

pub base-above : (g : Geometry) (k : ℕ) → k ≢ 0 → base g k ≡ node_at g k + 1
base-above g k h = grind (arith, nat_tests)

positive : (k : ℕ) → k ≢ 0 → 0 < k
positive k h = omega arith

pub base_from : (g : Geometry) (k : ℕ) → node_at g k < base g k
base_from g k = ⊎_elim (λ (z : k ≡ 0). let b = base-0 g k z in let n = ap (node_at g) z ∙ node_at-0 g in let l = first_free_low g in omega arith)
    (λ (z : k ≢ 0). let b = base-above g k z in omega arith) (same_or_not k 0)

pub base_to : (g : Geometry) (k : ℕ) → base g k ≤ node_at g k + node_size g
base_to g k = ⊎_elim (λ (z : k ≡ 0). let b = base-0 g k z in let n = ap (node_at g) z ∙ node_at-0 g in let l = first_free_fits g in omega arith)
    (λ (z : k ≢ 0). let b = base-above g k z in let r = node_size_range g in omega arith) (same_or_not k 0)

pub base_low : (g : Geometry) (k : ℕ) → first_free g ≤ base g k
base_low g k = ⊎_elim (λ (z : k ≡ 0). let b = base-0 g k z in omega arith)
    (λ (z : k ≢ 0). let b = base-above g k z in let h = node_at_high g k (positive k z) in omega arith) (same_or_not k 0)

-- the end of a node
pub node_end : (g : Geometry) (k : ℕ) → (k + 1) * node_size g ≡ node_at g k + node_size g
unfolding node_at
node_end g k = omega arith

-- a word that may be taken stands in no first table, and outside the tables it is a heap word
pub heap_none : (g : Geometry) (a : ℕ) → base g (node_of g a) ≤ a → first_table_of g a ≡ None
heap_none g a h = let l = base_low g (node_of g a) in first_none_high g a (omega arith)

pub heap_word : (g : Geometry) (a : ℕ) → base g (node_of g a) ≤ a → role_in g a None ≡ HeapWord
heap_word g a h =
    let l = base_low g (node_of g a) in
    let d = first_free_directory g in
    let f = base_from g (node_of g a) in
    let begins : a % node_size g ≢ 0 = λ (z : a % node_size g ≡ 0). let n = node_at_is g a z ∙ ap (node_at g) (sym (node_of-div g a)) in omega arith in
    heap_role g a (omega arith) begins

-- the node of an address between its base and its end
pub node_between : (g : Geometry) (k a : ℕ) → base g k ≤ a → a < node_at g k + node_size g → node_of g a ≡ k
node_between g k a h l = let f = base_from g k in ap (node_of g) (sym (cut (node_at g k) a (omega arith))) ∙ node_is g k (a - node_at g k) (omega arith)
  where
    cut : (x y : ℕ) → x ≤ y → x + (y - x) ≡ y
    cut x y h = omega arith
