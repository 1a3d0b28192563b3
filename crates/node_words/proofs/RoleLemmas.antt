-- Which addresses have which roles.

use Rattle.std.proofs.Common.{◌≡◌, ◌≢◌, ℕ, ◌+◌, ◌-◌, ◌*◌, ◌/◌, ◌%◌, ◌^◌, ◌<◌, ◌≤◌, false, Option, Some, None, sym, ap, subst, ◌∙◌, arith, mod-eq_of_lt}
use Rattle.std.specs.Prelude.{◌==◌}
use Rattle.std.proofs.lemmas.Bool.Decides.{nat_tests}
use Rattle.node_words.specs.declared.geometry.Geometry.{Geometry}
use Rattle.node_words.specs.Addresses.{node_size, node_at, table_words, directory_at, birth_at, header_at, lock_at, child_at, slot_at, bucket_header_at}
use Rattle.node_words.specs.Roles.{NextWord, DepthWord, DirectoryWord, BirthWord, HeaderWord, LockWord, ReservedWord, ChildWord, BucketWord, SlotWord, HeapWord, offset_role, role_in}
use Rattle.node_words.proofs.Sizes.{node_at_is, node_at-mod, node_at-div, first_free_fits, first_free_directory, node_below, node_of-div}

-- a word of a table, by its offset there
pub birth_place : (t o u : ℕ) → offset_role t o ≡ BirthWord u → (u ≡ t) × (o ≡ 0)
unfolding offset_role
birth_place t o u h = grind (arith, nat_tests)

pub header_place : (t o u : ℕ) → offset_role t o ≡ HeaderWord u → (u ≡ t) × (o ≡ 1)
unfolding offset_role
header_place t o u h = grind (arith, nat_tests)

pub lock_place : (t o u : ℕ) → offset_role t o ≡ LockWord u → (u ≡ t) × (o ≡ 2)
unfolding offset_role
lock_place t o u h = grind (arith, nat_tests)

pub child_place : (t o u i : ℕ) → offset_role t o ≡ ChildWord u i → (u ≡ t) × (o ≡ 4 + i) × (i < 16)
unfolding offset_role
child_place t o u i h = grind (arith, nat_tests)

pub slot_place : (t o u p : ℕ) → offset_role t o ≡ SlotWord u p → (u ≡ t) × (o ≡ 20 + p) × (p % 8 ≢ 0)
unfolding offset_role
slot_place t o u p h = grind (arith, nat_tests)

-- the place of a bucket header, by its number and back
pub bucket_number : (p : ℕ) → p % 8 ≡ 0 → p % 24 ≢ 8 → p ≡ 24 * ((p / 24 * 2 + p % 24 / 16) / 2) + 16 * ((p / 24 * 2 + p % 24 / 16) % 2)
bucket_number p h k = omega arith

pub bucket_digits : (m : ℕ) → ((24 * (m / 2) + 16 * (m % 2)) % 8 ≡ 0) × ((24 * (m / 2) + 16 * (m % 2)) % 24 ≡ 16 * (m % 2)) × ((24 * (m / 2) + 16 * (m % 2)) / 24 ≡ m / 2)
bucket_digits m = (omega arith, omega arith, omega arith)

pub bucket_place : (t o u m : ℕ) → offset_role t o ≡ BucketWord u m → (u ≡ t) × (o ≡ 20 + 24 * (m / 2) + 16 * (m % 2))
unfolding offset_role
bucket_place t o u m h = let e = bucket_number (o - 20) in grind (arith, nat_tests)

-- the numbers and places of a table with g groups
pub bucket_below : (g : Geometry) (t o u m : ℕ) → offset_role t o ≡ BucketWord u m → o < table_words g → m < 2 * g.groups
bucket_below g t o u m h k = let e = bucket_place t o u m h in omega arith

pub slot_below : (g : Geometry) (t o u p : ℕ) → offset_role t o ≡ SlotWord u p → o < table_words g → p < 24 * g.groups
slot_below g t o u p h k = let e = slot_place t o u p h in omega arith

-- the role of each word of a table
pub birth_role : (g : Geometry) (t : ℕ) → role_in g (birth_at t) (Some t) ≡ BirthWord t
unfolding role_in offset_role
birth_role g t = grind (arith, nat_tests)

pub header_role : (g : Geometry) (t : ℕ) → role_in g (header_at t) (Some t) ≡ HeaderWord t
unfolding role_in offset_role
header_role g t = grind (arith, nat_tests)

pub lock_role : (g : Geometry) (t : ℕ) → role_in g (lock_at t) (Some t) ≡ LockWord t
unfolding role_in offset_role
lock_role g t = grind (arith, nat_tests)

pub reserved_role : (g : Geometry) (t : ℕ) → role_in g (t + 3) (Some t) ≡ ReservedWord
unfolding role_in offset_role
reserved_role g t = grind (arith, nat_tests)

pub child_role : (g : Geometry) (t i : ℕ) → i < 16 → role_in g (child_at t i) (Some t) ≡ ChildWord t i
unfolding role_in offset_role
child_role g t i h = grind (arith, nat_tests)

pub bucket_role : (g : Geometry) (t m : ℕ) → role_in g (bucket_header_at t m) (Some t) ≡ BucketWord t m
unfolding role_in offset_role
bucket_role g t m = let p = bucket_digits m in grind (arith, nat_tests)

pub slot_role : (g : Geometry) (t p : ℕ) → p % 8 ≢ 0 → role_in g (slot_at t p) (Some t) ≡ SlotWord t p
unfolding role_in offset_role
slot_role g t p h = grind (arith, nat_tests)

-- word 0 of an overflow bucket is reserved
pub overflow_role : (g : Geometry) (t k : ℕ) → role_in g (t + 20 + (24 * k + 8)) (Some t) ≡ ReservedWord
unfolding role_in offset_role
overflow_role g t k = grind (arith, nat_tests)

-- the role of each word outside the tables
pub next_role : (g : Geometry) (k : ℕ) → role_in g (node_at g k) None ≡ NextWord k
unfolding role_in
next_role g k = let m = node_at-mod g k in let d = node_at-div g k in grind (arith, nat_tests)

-- an address of the directory, or the depth's, begins no node
pub low_place : (g : Geometry) (a : ℕ) → 0 < a → a < 2 + 2 ^ g.max_depth → a % node_size g ≢ 0
low_place g a h k =
    let f = first_free_fits g in let d = first_free_directory g in
    let e : a % node_size g ≡ a = mod-eq_of_lt (omega arith) in
    omega arith

pub depth_role : (g : Geometry) → role_in g 1 None ≡ DepthWord
unfolding role_in
depth_role g = let e = low_place g 1 (omega arith) (omega arith) in grind (arith, nat_tests)

pub directory_role : (g : Geometry) (j : ℕ) → j < 2 ^ g.max_depth → role_in g (directory_at j) None ≡ DirectoryWord j
unfolding role_in
directory_role g j h =
    let e = low_place g (2 + j) (omega arith) (omega arith) in
    let t : (2 + j == 1) ≡ false = grind (arith, nat_tests) in
    let d : 2 + j - 2 ≡ j = omega arith in
    grind (arith, nat_tests)

pub heap_role : (g : Geometry) (a : ℕ) → 2 + 2 ^ g.max_depth ≤ a → a % node_size g ≢ 0 → role_in g a None ≡ HeapWord
unfolding role_in
heap_role g a h k = grind (arith, nat_tests)

-- an address with a role
pub next_in : (g : Geometry) (a : ℕ) (o : Option ℕ) (k : ℕ) → role_in g a o ≡ NextWord k → (o ≡ None) × (a % node_size g ≡ 0) × (k ≡ a / node_size g)
unfolding role_in offset_role
next_in g a o k h = grind (arith, nat_tests)

pub next_below : (g : Geometry) (a : ℕ) (o : Option ℕ) (k : ℕ) → role_in g a o ≡ NextWord k → a < g.words → (k < g.nodes) × (a ≡ node_at g k)
next_below g a o k h b =
    let x = next_in g a o k h in
    (subst (λ n. n < g.nodes) (node_of-div g a ∙ sym x.2) (node_below g a b), node_at_is g a x.1 ∙ ap (node_at g) (sym x.2))

pub depth_in : (g : Geometry) (a : ℕ) (o : Option ℕ) → role_in g a o ≡ DepthWord → (o ≡ None) × (a ≡ 1)
unfolding role_in offset_role
depth_in g a o h = grind (arith, nat_tests)

pub directory_in : (g : Geometry) (a : ℕ) (o : Option ℕ) (j : ℕ) → role_in g a o ≡ DirectoryWord j → (o ≡ None) × (a ≡ directory_at j) × (j < 2 ^ g.max_depth)
unfolding role_in offset_role
directory_in g a o j h = grind (arith, nat_tests)

pub heap_in : (g : Geometry) (a : ℕ) (o : Option ℕ) → role_in g a o ≡ HeapWord → (o ≡ None) × (2 + 2 ^ g.max_depth ≤ a) × (a % node_size g ≢ 0)
unfolding role_in offset_role
heap_in g a o h = grind (arith, nat_tests)

pub birth_in : (g : Geometry) (a : ℕ) (o : Option ℕ) (u : ℕ) → role_in g a o ≡ BirthWord u → (o ≡ Some u) × (a ≤ u)
unfolding role_in offset_role
birth_in g a o u h = grind (arith, nat_tests)

pub header_in : (g : Geometry) (a : ℕ) (o : Option ℕ) (u : ℕ) → role_in g a o ≡ HeaderWord u → (o ≡ Some u) × (a ≡ header_at u)
unfolding role_in offset_role
header_in g a o u h = grind (arith, nat_tests)

pub lock_in : (g : Geometry) (a : ℕ) (o : Option ℕ) (u : ℕ) → role_in g a o ≡ LockWord u → (o ≡ Some u) × (a ≡ lock_at u)
unfolding role_in offset_role
lock_in g a o u h = grind (arith, nat_tests)

pub child_in : (g : Geometry) (a : ℕ) (o : Option ℕ) (u i : ℕ) → role_in g a o ≡ ChildWord u i → (o ≡ Some u) × (a ≡ child_at u i) × (i < 16)
unfolding role_in offset_role
child_in g a o u i h = grind (arith, nat_tests)

pub slot_in : (g : Geometry) (a : ℕ) (o : Option ℕ) (u p : ℕ) → role_in g a o ≡ SlotWord u p → (o ≡ Some u) × (a ≡ slot_at u p) × (p % 8 ≢ 0)
unfolding role_in
slot_in g a None u p h = absurd (grind (arith, nat_tests))
slot_in g a (Some t) u p h = let x = slot_place t (a - t) u p h in (ap (λ n. Some n) (sym x.0), (let y = x.0 in let z = x.1 in omega arith), x.2)

pub bucket_in : (g : Geometry) (a : ℕ) (o : Option ℕ) (u m : ℕ) → role_in g a o ≡ BucketWord u m → (o ≡ Some u) × (a ≡ bucket_header_at u m)
unfolding role_in
bucket_in g a None u m h = absurd (grind (arith, nat_tests))
bucket_in g a (Some t) u m h = let x = bucket_place t (a - t) u m h in (ap (λ n. Some n) (sym x.0), (let y = x.0 in let z = x.1 in omega arith))
