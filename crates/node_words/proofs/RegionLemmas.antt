-- An address stands in the region that the tests of its number name.

use Rattle.std.proofs.Common.{◌≡◌, ◌≢◌, ℕ, ◌+◌, ◌-◌, ◌/◌, ◌%◌, ◌^◌, ◌<◌, ◌≤◌, sym, ap, subst, ◌∙◌, arith}
use Rattle.std.proofs.lemmas.Bool.Decides.{nat_tests}
use Rattle.node_words.specs.declared.geometry.Geometry.{Geometry}
use Rattle.node_words.specs.declared.region.Region.{Region}
use Rattle.node_words.specs.declared.region.Region.TheVariants.{Next, Depth, Directory, Heap}
use Rattle.node_words.specs.Addresses.{node_size, node_at}
use Rattle.node_words.specs.Roles.{region_at, StandsIn}
use Rattle.node_words.proofs.Sizes.{node_at_is, node_at-mod, node_below, node_of-div}

-- what the tests say of each region
pub next_tests : (g : Geometry) (a k : ℕ) → region_at g a ≡ Next k → (a % node_size g ≡ 0) × (k ≡ a / node_size g)
unfolding region_at
next_tests g a k h = grind (arith, nat_tests)

pub depth_tests : (g : Geometry) (a : ℕ) → region_at g a ≡ Depth → a ≡ 1
unfolding region_at
depth_tests g a h = grind (arith, nat_tests)

pub directory_tests : (g : Geometry) (a j : ℕ) → region_at g a ≡ Directory j → (a % node_size g ≢ 0) × (a ≢ 1) × (a < 2 + 2 ^ g.max_depth) × (j ≡ a - 2)
unfolding region_at
directory_tests g a j h = grind (arith, nat_tests)

pub heap_tests : (g : Geometry) (a : ℕ) → region_at g a ≡ Heap → (2 + 2 ^ g.max_depth ≤ a) × (a % node_size g ≢ 0)
unfolding region_at
heap_tests g a h = grind (arith, nat_tests)

pub region_stands : (g : Geometry) (a : ℕ) (r : Region) → a < g.words → region_at g a ≡ r → StandsIn g a r
region_stands g a (Next k) b h =
    let x = next_tests g a k h in
    (subst (λ n. n < g.nodes) (node_of-div g a ∙ sym x.1) (node_below g a b), node_at_is g a x.0 ∙ ap (node_at g) (sym x.1))
region_stands g a Depth b h = depth_tests g a h
region_stands g a (Directory j) b h =
    let x = directory_tests g a j h in
    let some : a ≢ 0 = λ e. x.0 (ap (λ n. n % node_size g) e ∙ zero_first g) in
    let last = x.1 in (omega arith, omega arith)
  where
    zero_first : (g : Geometry) → 0 % node_size g ≡ 0
    zero_first g = grind arith
region_stands g a Heap b h =
    let x = heap_tests g a h in
    (x.0, λ k e. x.1 (ap (λ n. n % node_size g) e ∙ node_at-mod g k))
