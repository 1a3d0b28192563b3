-- The first tables stand one after the other, and each address in one of them names it.

use Rattle.std.proofs.Common.{◌≡◌, ℕ, suc, ◌+◌, ◌-◌, ◌*◌, ◌/◌, ◌%◌, ◌^◌, ◌<◌, ◌≤◌, ◌⊎◌, Some, None, cond, ◌&&◌, refl, sym, ap, subst, ◌∙◌, arith, le_refl, div-mul-le_self, div-add-mod'}
use Rattle.std.specs.Prelude.{nat_le, nat_lt}
use Rattle.std.proofs.lemmas.Nat.{div_below, mul-le, div-mul-add}
use Rattle.std.proofs.lemmas.Bool.Decides.{nat_tests}
use Rattle.std.proofs.Math.Nat.{lt-div-mul-add}
use Rattle.node_words.specs.declared.geometry.Geometry.{Geometry}
use Rattle.node_words.specs.Addresses.{node_of, table_words, directory_at, first_table, first_free}
use Rattle.node_words.specs.Roles.{first_table_of}
use Rattle.node_words.proofs.Sizes.{first_free_fits, first_free_words, node_of_low}

-- a grid of cells of size s from b on
pub cell_below : (b s n a : ℕ) → 0 < s → b ≤ a → a < b + n * s → (a - b) / s < n
cell_below b s n a p h k = div_below (a - b) s n p (omega arith)

pub cell_from : (b s a : ℕ) → b ≤ a → b + (a - b) / s * s ≤ a
cell_from b s a h = let e = div-mul-le_self (a - b) s in omega arith

pub cell_to : (b s a : ℕ) → 0 < s → b ≤ a → a < b + (a - b) / s * s + s
cell_to b s a p h = let e = lt-div-mul-add {a = a - b} p in omega arith

pub cell_of : (b s j o : ℕ) → o < s → (b + j * s + o - b) / s ≡ j
cell_of b s j o h = ap (λ n. n / s) (cut (j * s)) ∙ div-mul-add j s o h
  where
    cut : (m : ℕ) → b + m + o - b ≡ m + o
    cut m = omega arith

pub cell_ends : (b s n j : ℕ) → j < n → b + j * s + s ≤ b + n * s
cell_ends b s n j h = let e : suc j * s ≤ n * s = mul-le (suc j) s n s h (le_refl s) in omega arith

-- the cell of a is cell (a - b) / s
pub cell_at : (b s n a j t : ℕ) → 0 < s → b ≤ a → a < b + n * s → j ≡ (a - b) / s → t ≡ b + j * s → (j < n) × (t ≤ a) × (a < t + s)
cell_at b s n a j t p h k e f =
    let c = cell_below b s n a p h k in let d = cell_from b s a h in let x = cell_to b s a p h in let y = ap (λ m. m * s) e in
    (omega arith, omega arith, omega arith)

pub span_test : (x y a v t : ℕ) → cond (nat_le x a && nat_lt a y) (Some v) None ≡ Some t → (x ≤ a) × (a < y) × (t ≡ v)
span_test x y a v t h = grind (arith, nat_tests)

pub test_span : (x y a v : ℕ) → x ≤ a → a < y → cond (nat_le x a && nat_lt a y) (Some v) None ≡ Some v
test_span x y a v h k = grind (arith, nat_tests)

-- the address stands in first table t
pub record IsInFirst (g : Geometry) (a t : ℕ) : Type 0 where
  pub index : ℕ
  pub below : index < 2 ^ g.first_depth
  pub is : t ≡ first_table g index
  pub from : t ≤ a
  pub to : a < t + table_words g

-- where the first tables begin and end
pub first_table-0 : (g : Geometry) → first_table g 0 ≡ 2 + 2 ^ g.max_depth
unfolding first_table
first_table-0 g = omega arith

pub first_table_low : (g : Geometry) (j : ℕ) → 2 + 2 ^ g.max_depth ≤ first_table g j
unfolding first_table
first_table_low g j = omega arith

pub first_table_ends : (g : Geometry) (j : ℕ) → j < 2 ^ g.first_depth → first_table g j + table_words g ≤ first_free g
unfolding first_table first_free
first_table_ends g j h = cell_ends (2 + 2 ^ g.max_depth) (table_words g) (2 ^ g.first_depth) j h

-- two first tables have no word in common
pub first_table_apart : (g : Geometry) (i j : ℕ) → i < j → first_table g i + table_words g ≤ first_table g j
unfolding first_table
first_table_apart g i j h = cell_ends (2 + 2 ^ g.max_depth) (table_words g) j i h

pub in_cell : (g : Geometry) (a t j : ℕ) → j ≡ (a - (2 + 2 ^ g.max_depth)) / table_words g → 2 + 2 ^ g.max_depth ≤ a → a < first_free g → t ≡ first_table g j → IsInFirst g a t
unfolding first_table first_free
in_cell g a t j e h k is =
    let c = cell_at (2 + 2 ^ g.max_depth) (table_words g) (2 ^ g.first_depth) a j t (omega arith) h k e is in
    record { index = j; below = c.0; is = is; from = c.1; to = c.2 }

-- the table of an address is where the address stands
pub first_in : (g : Geometry) (a t : ℕ) → first_table_of g a ≡ Some t → IsInFirst g a t
unfolding first_table_of
first_in g a t h =
    let q = span_test (first_table g 0) (first_free g) a (first_table g ((a - first_table g 0) / table_words g)) t h in
    let e = first_table-0 g in
    in_cell g a t ((a - first_table g 0) / table_words g) (ap (λ n. (a - n) / table_words g) e) (subst (λ n. n ≤ a) e q.0) q.1 q.2

pub cell_number : (g : Geometry) (j o : ℕ) → o < table_words g → (first_table g j + o - first_table g 0) / table_words g ≡ j
unfolding first_table
cell_number g j o h = ap (λ n. (2 + 2 ^ g.max_depth + j * table_words g + o - n) / table_words g) (first_table-0 g) ∙ cell_of (2 + 2 ^ g.max_depth) (table_words g) j o h

-- an address of first table j names it
pub first_of : (g : Geometry) (j o : ℕ) → j < 2 ^ g.first_depth → o < table_words g → first_table_of g (first_table g j + o) ≡ Some (first_table g j)
unfolding first_table_of
first_of g j o h k =
    let low = first_table_low g j in let high = first_table_ends g j h in let e = first_table-0 g in
    test_span (first_table g 0) (first_free g) (first_table g j + o) _ (omega arith) (omega arith) ∙ ap (λ n. Some (first_table g n)) (cell_number g j o k)

-- an address that stands in first table t names it
pub first_is : (g : Geometry) (a t : ℕ) → IsInFirst g a t → first_table_of g a ≡ Some t
first_is g a t h =
    let e : first_table g h.index + (a - t) ≡ a = let i = h.is in let f = h.from in omega arith in
    let o : a - t < table_words g = let f = h.from in let k = h.to in omega arith in
    ap (first_table_of g) (sym e) ∙ first_of g h.index (a - t) h.below o ∙ ap (λ n. Some n) (sym h.is)

-- an address in no first table lies below them or behind them
pub first_none : (g : Geometry) (a : ℕ) → first_table_of g a ≡ None → (a < 2 + 2 ^ g.max_depth) ⊎ (first_free g ≤ a)
unfolding first_table_of
first_none g a h = let e = first_table-0 g in grind (arith, nat_tests)

pub first_none_low : (g : Geometry) (a : ℕ) → a < 2 + 2 ^ g.max_depth → first_table_of g a ≡ None
unfolding first_table_of
first_none_low g a h = let e = first_table-0 g in grind (arith, nat_tests)

pub first_none_high : (g : Geometry) (a : ℕ) → first_free g ≤ a → first_table_of g a ≡ None
unfolding first_table_of
first_none_high g a h = grind (arith, nat_tests)

-- an address is first table j's, at what is left over
pub cell_whole : (b s a : ℕ) → b ≤ a → a ≡ b + (a - b) / s * s + (a - b) % s
cell_whole b s a h = let e = div-add-mod' (a - b) s in omega arith

pub cell_place : (g : Geometry) (a : ℕ) → 2 + 2 ^ g.max_depth ≤ a → a ≡ first_table g ((a - (2 + 2 ^ g.max_depth)) / table_words g) + (a - (2 + 2 ^ g.max_depth)) % table_words g
unfolding first_table
cell_place g a h = cell_whole (2 + 2 ^ g.max_depth) (table_words g) a h

pub cell_index : (g : Geometry) (a : ℕ) → 2 + 2 ^ g.max_depth ≤ a → a < first_free g → (a - (2 + 2 ^ g.max_depth)) / table_words g < 2 ^ g.first_depth
unfolding first_free
cell_index g a h k = cell_below (2 + 2 ^ g.max_depth) (table_words g) (2 ^ g.first_depth) a (omega arith) h k

-- an address between the ends of first table j names it
pub in_first : (g : Geometry) (j a : ℕ) → j < 2 ^ g.first_depth → first_table g j ≤ a → a < first_table g j + table_words g → first_table_of g a ≡ Some (first_table g j)
in_first g j a h from to = first_is g a (first_table g j) (record { index = j; below = h; is = refl; from = from; to = to })

-- the first tables lie in node 0, within the words
pub first_in_words : (g : Geometry) (a t : ℕ) → IsInFirst g a t → (t + table_words g ≤ first_free g) × (t + table_words g ≤ g.words) × (node_of g a ≡ 0) × (node_of g t ≡ 0)
first_in_words g a t h =
    let i = h.is in let e = first_table_ends g h.index h.below in let f = first_free_fits g in let w = first_free_words g in
    let to = h.to in let from = h.from in
    (omega arith, omega arith, node_of_low g a (omega arith), node_of_low g t (omega arith))

-- two addresses of one first table name the same one, and no others do
pub first_same : (g : Geometry) (a b t : ℕ) → IsInFirst g a t → t ≤ b → b < t + table_words g → IsInFirst g b t
first_same g a b t h from to = record { index = h.index; below = h.below; is = h.is; from = from; to = to }

-- the depth and the directory stand in no first table
pub depth_apart : (g : Geometry) → first_table_of g 1 ≡ None
depth_apart g = first_none_low g 1 (omega arith)

pub directory_apart : (g : Geometry) (j : ℕ) → j < 2 ^ g.max_depth → first_table_of g (directory_at j) ≡ None
directory_apart g j h = first_none_low g (directory_at j) (omega arith)
