-- The opening words by address.

use Rattle.std.proofs.Common.{map, ◌≡◌, ◌≢◌, ℕ, zero, suc, ◌+◌, ◌-◌, ◌*◌, ◌/◌, ◌%◌, ◌^◌, ◌<◌, ◌≤◌, ◌⊎◌, inl, inr, length, cond, Some, None, refl, sym, ap, ◌∙◌, arith, zero-add, add-zero, div-le_self}
use Rattle.std.specs.Prelude.{nat_lt, slice_index, slice_get}
use Rattle.std.specs.List.{range_with_len}
use Rattle.std.proofs.lemmas.List.FromFn.{length-map-range_with_len, get_or-map-range_with_len}
use Rattle.std.proofs.lemmas.Option.{slice_get-get_or}
use Rattle.std.proofs.lemmas.Nat.{mod_below}
use Rattle.std.proofs.lemmas.Bool.Decides.{nat_tests}
use Rattle.node_words.specs.declared.geometry.Geometry.{Geometry}
use Rattle.node_words.specs.Addresses.{node_size, node_at, table_words, first_table, first_free, directory_at, birth_at, header_at, lock_at, child_at, slot_at, bucket_header_at}
use Rattle.node_words.specs.Roles.{Role, NextWord, DepthWord, DirectoryWord, BirthWord, HeaderWord, LockWord, ReservedWord, ChildWord, BucketWord, SlotWord, HeapWord, offset_role, outer_role, role_in, first_table_of, region_at}
use Rattle.node_words.specs.declared.region.Region.TheVariants.{Next, Depth, Directory, Heap}
use Rattle.node_words.specs.Opening.{plain_header, first_birth, role_word, opening_word, opening}
use Rattle.node_words.proofs.Sizes.{few_first, first_free_words, node_at_is, node_at-0, node_at_high, first_free_directory}
use Rattle.node_words.proofs.FirstTables.{first_of, first_none_low, first_none_high, first_in, first_table_ends, cell_number, in_first, cell_place, cell_index}
use Rattle.node_words.proofs.RoleLemmas.{next_role, depth_role, directory_role, birth_role, header_role, bucket_role, slot_role, lock_role, child_role, heap_role, next_in, birth_in}

-- the list of the opening words, by address
pub opening-is : (g : Geometry) → opening g ≡ map (opening_word g) (range_with_len 0 g.words)
unfolding opening
opening-is g = refl

-- the list has the memory's length, and the word of each address
pub length-opening : (g : Geometry) → length (opening g) ≡ g.words
unfolding opening
length-opening g = length-map-range_with_len (opening_word g) 0 g.words

pub opening-index : (g : Geometry) (a : ℕ) → a < g.words → slice_index (opening g) a ≡ opening_word g a
unfolding opening
opening-index g a h = get_or-map-range_with_len (opening_word g) 0 g.words a a 0 h (zero-add a)

pub opening-get : (g : Geometry) (a : ℕ) → a < g.words → slice_get (opening g) a ≡ Some (opening_word g a)
opening-get g a h =
    let n = length-opening g in
    slice_get-get_or (opening g) a 0 (omega arith) ∙ ap (λ w. Some w) (opening-index g a h)

-- the opening word of an address whose role is known
pub opening_by_role : (g : Geometry) (a : ℕ) (r : Role) → role_in g a (first_table_of g a) ≡ r → opening_word g a ≡ role_word g r
unfolding opening_word
opening_by_role g a r h = ap (role_word g) h

-- a next word stands in no first table
pub next_apart : (g : Geometry) (k : ℕ) → first_table_of g (node_at g k) ≡ None
next_apart g zero = let e = node_at-0 g in first_none_low g (node_at g 0) (omega arith)
next_apart g (suc k) = first_none_high g (node_at g (suc k)) (node_at_high g (suc k) (omega arith))

-- the role of a word of a table by its offset
pub in_table : (g : Geometry) (t o : ℕ) → role_in g (t + o) (Some t) ≡ offset_role t o
unfolding role_in
in_table g t o = let e : t + o - t ≡ o = omega arith in ap (offset_role t) e

-- the role of word o of first table j
pub first_role : (g : Geometry) (j o : ℕ) → j < 2 ^ g.first_depth → o < table_words g → role_in g (first_table g j + o) (first_table_of g (first_table g j + o)) ≡ offset_role (first_table g j) o
first_role g j o h k = ap (role_in g (first_table g j + o)) (first_of g j o h k) ∙ in_table g (first_table g j) o

pub opening_inside : (g : Geometry) (j o : ℕ) → j < 2 ^ g.first_depth → o < table_words g → opening_word g (first_table g j + o) ≡ role_word g (offset_role (first_table g j) o)
opening_inside g j o h k = opening_by_role g (first_table g j + o) (offset_role (first_table g j) o) (first_role g j o h k)

-- the same for an address among the first tables
pub opening_among : (g : Geometry) (a : ℕ) → 2 + 2 ^ g.max_depth ≤ a → a < first_free g → opening_word g a ≡ role_word g (offset_role (first_table g ((a - (2 + 2 ^ g.max_depth)) / table_words g)) ((a - (2 + 2 ^ g.max_depth)) % table_words g))
opening_among g a h k =
    ap (opening_word g) (cell_place g a h)
    ∙ opening_inside g ((a - (2 + 2 ^ g.max_depth)) / table_words g) ((a - (2 + 2 ^ g.max_depth)) % table_words g) (cell_index g a h k) (mod_below (a - (2 + 2 ^ g.max_depth)) (table_words g) (omega arith))

-- an address outside the first tables
pub opening_outside : (g : Geometry) (a : ℕ) → (a < 2 + 2 ^ g.max_depth) ⊎ (first_free g ≤ a) → opening_word g a ≡ role_word g (outer_role g a)
unfolding opening_word role_in
opening_outside g a (inl h) = ap (λ o. role_word g (role_in g a o)) (first_none_low g a h)
opening_outside g a (inr h) = ap (λ o. role_word g (role_in g a o)) (first_none_high g a h)

-- the opening words of a memory, one kind after the other
pub opening_next-0 : (g : Geometry) → opening_word g 0 ≡ first_free g
opening_next-0 g = ap (opening_word g) (sym (node_at-0 g)) ∙ opening_by_role g (node_at g 0) (NextWord 0) (ap (role_in g (node_at g 0)) (next_apart g 0) ∙ next_role g 0)

pub next_word : (g : Geometry) (k : ℕ) → role_word g (NextWord (suc k)) ≡ node_at g (suc k) + 1
next_word g k = grind (arith, nat_tests)

pub opening_next : (g : Geometry) (k : ℕ) → opening_word g (node_at g (suc k)) ≡ node_at g (suc k) + 1
opening_next g k = opening_by_role g (node_at g (suc k)) (NextWord (suc k)) (ap (role_in g (node_at g (suc k))) (next_apart g (suc k)) ∙ next_role g (suc k)) ∙ next_word g k

pub opening_depth : (g : Geometry) → opening_word g 1 ≡ g.first_depth
opening_depth g = opening_by_role g 1 DepthWord (ap (role_in g 1) (first_none_low g 1 (omega arith)) ∙ depth_role g)

pub opening_directory : (g : Geometry) (j : ℕ) → j < 2 ^ g.max_depth → opening_word g (directory_at j) ≡ cond (nat_lt j (2 ^ g.first_depth)) (first_table g j) 0
opening_directory g j h = opening_by_role g (directory_at j) (DirectoryWord j) (ap (role_in g (directory_at j)) (first_none_low g (directory_at j) (omega arith)) ∙ directory_role g j h)

pub opening_heap : (g : Geometry) (a : ℕ) → first_free g ≤ a → a % node_size g ≢ 0 → opening_word g a ≡ 0
opening_heap g a h k = let f = first_free_directory g in opening_by_role g a HeapWord (ap (role_in g a) (first_none_high g a h) ∙ heap_role g a (omega arith) k)

-- the opening word of each word of a first table
pub first_number : (g : Geometry) (j : ℕ) → (first_table g j - first_table g 0) / table_words g ≡ j
first_number g j = ap (λ n. (n - first_table g 0) / table_words g) (sym (add-zero (first_table g j))) ∙ cell_number g j 0 (omega arith)

pub word_birth : (g : Geometry) (j : ℕ) → role_word g (BirthWord (first_table g j)) ≡ first_birth g.first_depth j
word_birth g j = ap (first_birth g.first_depth) (first_number g j)

pub opening_birth : (g : Geometry) (j : ℕ) → j < 2 ^ g.first_depth → opening_word g (birth_at (first_table g j)) ≡ first_birth g.first_depth j
opening_birth g j h = opening_by_role g (birth_at (first_table g j)) (BirthWord (first_table g j)) (ap (role_in g (birth_at (first_table g j))) (in_first g j (birth_at (first_table g j)) h (omega arith) (omega arith)) ∙ birth_role g (first_table g j)) ∙ word_birth g j

pub opening_header : (g : Geometry) (j : ℕ) → j < 2 ^ g.first_depth → opening_word g (header_at (first_table g j)) ≡ plain_header g.first_depth
opening_header g j h = opening_by_role g (header_at (first_table g j)) (HeaderWord (first_table g j)) (ap (role_in g (header_at (first_table g j))) (first_of g j 1 h (omega arith)) ∙ header_role g (first_table g j))

pub opening_lock : (g : Geometry) (j : ℕ) → j < 2 ^ g.first_depth → opening_word g (lock_at (first_table g j)) ≡ 0
opening_lock g j h = opening_by_role g (lock_at (first_table g j)) (LockWord (first_table g j)) (ap (role_in g (lock_at (first_table g j))) (first_of g j 2 h (omega arith)) ∙ lock_role g (first_table g j))

pub opening_child : (g : Geometry) (j i : ℕ) → j < 2 ^ g.first_depth → i < 16 → opening_word g (child_at (first_table g j) i) ≡ 0
opening_child g j i h k = opening_by_role g (child_at (first_table g j) i) (ChildWord (first_table g j) i) (ap (role_in g (child_at (first_table g j) i)) (in_first g j (child_at (first_table g j) i) h (omega arith) (omega arith)) ∙ child_role g (first_table g j) i k)

pub opening_bucket : (g : Geometry) (j m : ℕ) → j < 2 ^ g.first_depth → m < 2 * g.groups → opening_word g (bucket_header_at (first_table g j) m) ≡ plain_header g.first_depth
opening_bucket g j m h k = opening_by_role g (bucket_header_at (first_table g j) m) (BucketWord (first_table g j) m) (ap (role_in g (bucket_header_at (first_table g j) m)) (in_first g j (bucket_header_at (first_table g j) m) h (omega arith) (omega arith)) ∙ bucket_role g (first_table g j) m)

pub opening_slot : (g : Geometry) (j p : ℕ) → j < 2 ^ g.first_depth → p < 24 * g.groups → p % 8 ≢ 0 → opening_word g (slot_at (first_table g j) p) ≡ 0
opening_slot g j p h k n = opening_by_role g (slot_at (first_table g j) p) (SlotWord (first_table g j) p) (ap (role_in g (slot_at (first_table g j) p)) (in_first g j (slot_at (first_table g j) p) h (omega arith) (omega arith)) ∙ slot_role g (first_table g j) p n)

-- each opening word is a word of 64 bits
pub role_fits : (g : Geometry) (a : ℕ) → a < g.words → (r : Role) → role_in g a (first_table_of g a) ≡ r → role_word g r < 2 ^ 64
role_fits g a h (NextWord k) r =
    let x = next_in g a (first_table_of g a) k r in
    let e : node_at g k ≡ a = sym (node_at_is g a x.1 ∙ ap (node_at g) (sym x.2)) in
    let f = first_free_words g in let w = g.within in
    grind (arith, nat_tests)
role_fits g a h DepthWord r = let f = few_first g in omega arith
role_fits g a h (DirectoryWord j) r =
    let e = first_table_ends g j in let f = first_free_words g in let w = g.within in
    grind (arith, nat_tests)
role_fits g a h (BirthWord t) r =
    let x = birth_in g a (first_table_of g a) t r in let i = first_in g a t x.0 in
    let f = few_first g in let w = g.within in let from = i.from in
    let d : (t - first_table g 0) / table_words g ≤ t - first_table g 0 = div-le_self (t - first_table g 0) (table_words g) in
    omega arith
role_fits g a h (HeaderWord t) r = let f = few_first g in omega arith
role_fits g a h (LockWord t) r = omega arith
role_fits g a h ReservedWord r = omega arith
role_fits g a h (ChildWord t i) r = omega arith
role_fits g a h (BucketWord t m) r = let f = few_first g in omega arith
role_fits g a h (SlotWord t p) r = omega arith
role_fits g a h HeapWord r = omega arith

pub opening_fits : (g : Geometry) (a : ℕ) → a < g.words → opening_word g a < 2 ^ 64
unfolding opening_word
opening_fits g a h = role_fits g a h (role_in g a (first_table_of g a)) refl

-- the role outside the tables, by the region
pub next_region : (g : Geometry) (a k : ℕ) → region_at g a ≡ Next k → (outer_role g a ≡ NextWord k) × (a ≡ node_at g k)
unfolding region_at
next_region g a k h =
    let x : (a % node_size g ≡ 0) × (k ≡ a / node_size g) = grind (arith, nat_tests) in
    (grind (arith, nat_tests), node_at_is g a x.0 ∙ ap (node_at g) (sym x.1))

pub depth_region : (g : Geometry) (a : ℕ) → region_at g a ≡ Depth → outer_role g a ≡ DepthWord
unfolding region_at
depth_region g a h = grind (arith, nat_tests)

pub directory_region : (g : Geometry) (a j : ℕ) → region_at g a ≡ Directory j → (outer_role g a ≡ DirectoryWord j) × (a ≡ directory_at j) × (j < 2 ^ g.max_depth)
unfolding region_at
directory_region g a j h = (grind (arith, nat_tests), grind (arith, nat_tests), grind (arith, nat_tests))

pub heap_region : (g : Geometry) (a : ℕ) → region_at g a ≡ Heap → outer_role g a ≡ HeapWord
unfolding region_at
heap_region g a h = grind (arith, nat_tests)

pub next_outside-0 : (g : Geometry) (a k : ℕ) → region_at g a ≡ Next k → k ≡ 0 → role_word g (outer_role g a) ≡ first_free g
next_outside-0 g a k h z = ap (role_word g) ((next_region g a k h).0 ∙ ap (λ n. NextWord n) z)

pub next_above : (g : Geometry) (a k : ℕ) → k ≢ 0 → a ≡ node_at g k → role_word g (NextWord k) ≡ a + 1
next_above g a k z e = grind (arith, nat_tests)

pub next_outside : (g : Geometry) (a k : ℕ) → region_at g a ≡ Next k → k ≢ 0 → role_word g (outer_role g a) ≡ a + 1
next_outside g a k h z = let x = next_region g a k h in ap (role_word g) x.0 ∙ next_above g a k z x.1

pub first_named : (g : Geometry) (j : ℕ) → j < 2 ^ g.first_depth → role_word g (DirectoryWord j) ≡ first_table g j
first_named g j h = grind (arith, nat_tests)

pub directory_outside : (g : Geometry) (a j : ℕ) → region_at g a ≡ Directory j → j < 2 ^ g.first_depth → role_word g (outer_role g a) ≡ first_table g j
directory_outside g a j h k = let x = directory_region g a j h in ap (role_word g) x.0 ∙ first_named g j k

pub ruleset words_outside = (depth_region, directory_region, heap_region, next_outside-0, next_outside, directory_outside)
