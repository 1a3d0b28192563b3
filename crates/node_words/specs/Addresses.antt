-- The addresses of words, as functions of the geometry or of the table that they stand in.

use Rattle.std.specs.Prelude.{ℕ, ◌+◌, ◌*◌, ◌/◌, ◌%◌, ◌^◌}
use Rattle.node_words.specs.declared.geometry.Geometry.{Geometry}

-- the words of one node
unfoldable pub node_size : Geometry → ℕ
node_size g = g.words / g.nodes

-- the node of an address
unfoldable pub node_of : Geometry → ℕ → ℕ
node_of g a = a / node_size g

-- the first word of a node, which is its next word
unfoldable pub node_at : Geometry → ℕ → ℕ
node_at g k = k * node_size g

-- the words of a table
abbrev pub table_words : Geometry → ℕ
table_words g = 20 + 24 * g.groups

-- directory word j
abbrev pub directory_at : ℕ → ℕ
directory_at j = 2 + j

-- first table j
unfoldable pub first_table : Geometry → ℕ → ℕ
first_table g j = 2 + 2 ^ g.max_depth + j * table_words g

-- the first word behind the first tables
unfoldable pub first_free : Geometry → ℕ
first_free g = 2 + 2 ^ g.max_depth + 2 ^ g.first_depth * table_words g

-- the words of the table at t
abbrev pub birth_at : ℕ → ℕ
birth_at t = t

abbrev pub header_at : ℕ → ℕ
header_at t = t + 1

abbrev pub lock_at : ℕ → ℕ
lock_at t = t + 2

-- the child of level i, of 16
abbrev pub child_at : ℕ → ℕ → ℕ
child_at t i = t + 4 + i

-- the slot at place p
abbrev pub slot_at : ℕ → ℕ → ℕ
slot_at t p = t + 20 + p

-- the header of main bucket m
abbrev pub bucket_header_at : ℕ → ℕ → ℕ
bucket_header_at t m = t + 20 + 24 * (m / 2) + 16 * (m % 2)
