-- What the word at an address is for.

use Rattle.std.specs.Prelude.{◌≡◌, ◌≢◌, ◌<◌, ◌≤◌, ℕ, ◌+◌, ◌-◌, ◌*◌, ◌/◌, ◌%◌, ◌^◌, ◌==◌, ◌&&◌, nat_lt, nat_le, Option, Some, None, cond}
use Rattle.node_words.specs.declared.geometry.Geometry.{Geometry}
use Rattle.node_words.specs.declared.region.Region.{Region}
use Rattle.node_words.specs.declared.region.Region.TheVariants.{Next, Depth, Directory, Heap}
use Rattle.node_words.specs.Addresses.{node_size, node_at, table_words, directory_at, first_table, first_free}

-- the role of a word: a table is named by its address, a main bucket by its number, a slot by its place
pub data Role : Type 0 where
  -- the next free word of a node
  NextWord : ℕ → Role
  DepthWord : Role
  DirectoryWord : ℕ → Role
  BirthWord : ℕ → Role
  HeaderWord : ℕ → Role
  LockWord : ℕ → Role
  -- a word that is always 0
  ReservedWord : Role
  -- the child of a level
  ChildWord : ℕ → ℕ → Role
  -- the header of a main bucket
  BucketWord : ℕ → ℕ → Role
  -- the slot at a place
  SlotWord : ℕ → ℕ → Role
  -- a word of no table, to be taken or taken already
  HeapWord : Role

-- the role of place p of the table at t
abbrev pub place_role : ℕ → ℕ → Role
place_role t p = cond (p % 8 == 0) (cond (p % 24 == 8) ReservedWord (BucketWord t (p / 24 * 2 + p % 24 / 16))) (SlotWord t p)

-- the role of word o of the table at t
unfoldable pub offset_role : ℕ → ℕ → Role
offset_role t o =
    cond (o == 0) (BirthWord t)
    (cond (o == 1) (HeaderWord t)
    (cond (o == 2) (LockWord t)
    (cond (o == 3) ReservedWord
    (cond (nat_lt o 20) (ChildWord t (o - 4)) (place_role t (o - 20))))))

-- the role of an address that stands in no table
abbrev pub outer_role : Geometry → ℕ → Role
outer_role g a =
    cond (a % node_size g == 0) (NextWord (a / node_size g))
    (cond (a == 1) DepthWord
    (cond (nat_lt a (2 + 2 ^ g.max_depth)) (DirectoryWord (a - 2)) HeapWord))

-- the role of an address that stands in this table, or in none
unfoldable pub role_in : Geometry → ℕ → Option ℕ → Role
role_in g a None = outer_role g a
role_in g a (Some t) = offset_role t (a - t)

-- the first table in which an address stands
unfoldable pub first_table_of : Geometry → ℕ → Option ℕ
first_table_of g a =
    cond (nat_le (first_table g 0) a && nat_lt a (first_free g))
    (Some (first_table g ((a - first_table g 0) / table_words g)))
    None

-- the part of the memory in which an address stands: each table counts to the heap
unfoldable pub region_at : Geometry → ℕ → Region
region_at g a =
    cond (a % node_size g == 0) (Next (a / node_size g))
    (cond (a == 1) Depth
    (cond (nat_lt a (2 + 2 ^ g.max_depth)) (Directory (a - 2)) Heap))

-- where an address of a region stands; no address stands in two of them
abbrev pub StandsIn : Geometry → ℕ → Region → Type 0
StandsIn g a (Next k) = (k < g.nodes) × (a ≡ node_at g k)
StandsIn g a Depth = a ≡ 1
StandsIn g a (Directory j) = (j < 2 ^ g.max_depth) × (a ≡ directory_at j)
StandsIn g a Heap = (2 + 2 ^ g.max_depth ≤ a) × ((k : ℕ) → a ≢ node_at g k)
