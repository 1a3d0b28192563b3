-- How large the parts of a memory are, and where its nodes lie.

use Rattle.std.proofs.Common.{◌≡◌, ℕ, suc, ◌+◌, ◌*◌, ◌/◌, ◌%◌, ◌^◌, ◌<◌, ◌≤◌, IsTrue, refl, sym, ap, subst, ◌∙◌, arith, le_refl, mul_comm, div-le_self, zero-add, div-mul-le_self, div-add-mod', add-zero}
use Rattle.std.proofs.lemmas.Nat.{pow_pos, le-div, div_below, mul-le, div-mul-add, mod-mul-add}
use Rattle.std.proofs.lemmas.Bool.Decides.{nat_tests}
use Rattle.std.proofs.Math.Nat.{pow-le-pow_right, lt-div-mul-add}
use Rattle.node_words.specs.declared.geometry.Geometry.{Geometry}
use Rattle.node_words.specs.Limits.{is_group_count}
use Rattle.node_words.specs.Addresses.{node_size, node_of, node_at, table_words, first_table, first_free}

-- a table has 1 to 64 groups
pub group_range : (n : ℕ) → IsTrue (is_group_count n) → (1 ≤ n) × (n ≤ 64)
group_range n h = grind (arith, nat_tests)

pub some_groups : (g : Geometry) → 1 ≤ g.groups
some_groups g = (group_range g.groups g.grouped).0

pub few_groups : (g : Geometry) → g.groups ≤ 64
few_groups g = (group_range g.groups g.grouped).1

-- a power of two up to the limit of depths
pub pow_16 : (d : ℕ) → d ≤ 16 → 2 ^ d ≤ 65536
pow_16 d h = pow-le-pow_right {n = 2} (omega arith) h

pub few_first : (g : Geometry) → g.first_depth ≤ 16
few_first g = let a = g.begins in let b = g.deep in omega arith

-- there are 1 to 65536 directory words
pub directory_range : (g : Geometry) → (1 ≤ 2 ^ g.max_depth) × (2 ^ g.max_depth ≤ 65536)
directory_range g = (pow_pos g.max_depth, pow_16 g.max_depth g.deep)

-- and 1 to 65536 first tables
pub first_range : (g : Geometry) → (1 ≤ 2 ^ g.first_depth) × (2 ^ g.first_depth ≤ 65536)
first_range g = (pow_pos g.first_depth, pow_16 g.first_depth (few_first g))

-- no more first tables than directory words
pub first_directory : (g : Geometry) → 2 ^ g.first_depth ≤ 2 ^ g.max_depth
first_directory g = pow-le-pow_right {n = 2} (omega arith) g.begins

-- the words of the first tables
pub first_tables_range : (g : Geometry) → (44 ≤ 2 ^ g.first_depth * table_words g) × (2 ^ g.first_depth * table_words g ≤ 2 ^ 27)
first_tables_range g =
    let a = some_groups g in let b = few_groups g in let c = first_range g in
    let low : 1 * 44 ≤ 2 ^ g.first_depth * table_words g = mul-le 1 44 _ _ c.0 (omega arith) in
    let high : 2 ^ g.first_depth * table_words g ≤ 65536 * 1556 = mul-le _ _ 65536 1556 c.1 (omega arith) in
    (omega arith, omega arith)

-- what node 0 opens with lies in node 0
pub first_free_fits : (g : Geometry) → first_free g ≤ node_size g
unfolding first_free node_size
first_free_fits g = le-div _ g.words g.nodes g.some (subst (λ n. n ≤ g.words) (mul_comm g.nodes _) g.enough)

pub first_free_low : (g : Geometry) → 47 ≤ first_free g
unfolding first_free
first_free_low g = let a = first_tables_range g in let b = directory_range g in omega arith

pub first_free_directory : (g : Geometry) → 2 + 2 ^ g.max_depth < first_free g
unfolding first_free
first_free_directory g = let a = first_tables_range g in omega arith

-- the words of all nodes are the nodes times the words of one
pub nodes_whole : (g : Geometry) → node_size g * g.nodes ≡ g.words
unfolding node_size
nodes_whole g = let a = div-add-mod' g.words g.nodes in let b = g.even in omega arith

-- a node is no larger than all of them
pub node_size_words : (g : Geometry) → node_size g ≤ g.words
unfolding node_size
node_size_words g = div-le_self g.words g.nodes

pub node_size_range : (g : Geometry) → (47 ≤ node_size g) × (node_size g ≤ 2 ^ 24)
node_size_range g =
    let a = first_free_fits g in let b = first_free_low g in let c = node_size_words g in let d = g.within in (omega arith, omega arith)

-- the first free address lies within the words
pub first_free_words : (g : Geometry) → first_free g ≤ g.words
first_free_words g = let a = first_free_fits g in let b = node_size_words g in omega arith

-- every address lies in the node of its number
pub node_from : (g : Geometry) (a : ℕ) → node_at g (node_of g a) ≤ a
unfolding node_at node_of
node_from g a = div-mul-le_self a (node_size g)

pub node_to : (g : Geometry) (a : ℕ) → a < node_at g (node_of g a) + node_size g
unfolding node_at node_of
node_to g a = let h = node_size_range g in lt-div-mul-add (omega arith)

pub node_below : (g : Geometry) (a : ℕ) → a < g.words → node_of g a < g.nodes
unfolding node_of
node_below g a h =
    let s = node_size_range g in
    div_below a (node_size g) g.nodes (omega arith) (subst (λ n. a < n) (sym (nodes_whole g) ∙ mul_comm (node_size g) g.nodes) h)

pub node_of-div : (g : Geometry) (a : ℕ) → node_of g a ≡ a / node_size g
unfolding node_of
node_of-div g a = refl

-- and an address of a node has its number
pub node_is : (g : Geometry) (k o : ℕ) → o < node_size g → node_of g (node_at g k + o) ≡ k
unfolding node_at node_of
node_is g k o h = div-mul-add k (node_size g) o h

-- the nodes lie within the words
pub node_ends : (g : Geometry) (k : ℕ) → k < g.nodes → node_at g k + node_size g ≤ g.words
unfolding node_at
node_ends g k h =
    let a : suc k * node_size g ≤ g.nodes * node_size g = mul-le (suc k) (node_size g) g.nodes (node_size g) h (le_refl _) in
    let b = nodes_whole g in let c = mul_comm (node_size g) g.nodes in omega arith

-- the first word of a node is a multiple of the node's size, and back
pub node_at-mod : (g : Geometry) (k : ℕ) → node_at g k % node_size g ≡ 0
unfolding node_at
node_at-mod g k =
    let s = node_size_range g in
    ap (λ n. n % node_size g) (sym (add-zero (k * node_size g))) ∙ mod-mul-add k (node_size g) 0 (omega arith)

pub node_at-div : (g : Geometry) (k : ℕ) → node_at g k / node_size g ≡ k
unfolding node_at
node_at-div g k =
    let s = node_size_range g in
    ap (λ n. n / node_size g) (sym (add-zero (k * node_size g))) ∙ div-mul-add k (node_size g) 0 (omega arith)

pub node_at_is : (g : Geometry) (a : ℕ) → a % node_size g ≡ 0 → a ≡ node_at g (a / node_size g)
unfolding node_at
node_at_is g a h = let e = div-add-mod' a (node_size g) in omega arith

pub node_at-0 : (g : Geometry) → node_at g 0 ≡ 0
unfolding node_at
node_at-0 g = omega arith

-- a node above the first one begins behind what node 0 opens with
pub node_at_high : (g : Geometry) (k : ℕ) → 0 < k → first_free g ≤ node_at g k
unfolding node_at
node_at_high g k h =
    let a : 1 * node_size g ≤ k * node_size g = mul-le 1 (node_size g) k (node_size g) h (le_refl _) in
    let b = first_free_fits g in omega arith

-- an address below the node's size is in node 0
pub node_of_low : (g : Geometry) (a : ℕ) → a < node_size g → node_of g a ≡ 0
node_of_low g a h = ap (node_of g) (sym (ap (λ n. n + a) (node_at-0 g) ∙ zero-add a)) ∙ node_is g 0 a h

-- the numbers as they are defined
pub node_size-is : (g : Geometry) → node_size g ≡ g.words / g.nodes
unfolding node_size
node_size-is g = refl

pub node_at-is : (g : Geometry) (k : ℕ) → node_at g k ≡ k * node_size g
unfolding node_at
node_at-is g k = refl

pub first_table-is : (g : Geometry) (j : ℕ) → first_table g j ≡ 2 + 2 ^ g.max_depth + j * table_words g
unfolding first_table
first_table-is g j = refl

pub first_free-is : (g : Geometry) → first_free g ≡ 2 + 2 ^ g.max_depth + 2 ^ g.first_depth * table_words g
unfolding first_free
first_free-is g = refl
