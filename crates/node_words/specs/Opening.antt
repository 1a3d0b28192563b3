-- The words of a memory before the first change.

use Rattle.std.specs.Prelude.{ℕ, ◌+◌, ◌-◌, ◌*◌, ◌/◌, ◌^◌, ◌==◌, nat_lt, List, map, cond}
use Rattle.std.specs.List.{range_with_len}
use Rattle.node_words.specs.declared.geometry.Geometry.{Geometry}
use Rattle.node_words.specs.Addresses.{node_at, table_words, first_table, first_free}
use Rattle.node_words.specs.Roles.{Role, NextWord, DepthWord, DirectoryWord, BirthWord, HeaderWord, LockWord, ReservedWord, ChildWord, BucketWord, SlotWord, HeapWord, role_in, first_table_of}

-- the header word of a plain table or bucket of depth d: the depth in bits 7..0, the state 1 in bits 9..8
abbrev pub plain_header : ℕ → ℕ
plain_header d = d + 2 ^ 8

-- the birth word of first table j: the depth in bits 7..0, the suffix in bits 23..8, no parent
abbrev pub first_birth : ℕ → ℕ → ℕ
first_birth d j = d + 2 ^ 8 * j

-- the opening word of a role
abbrev pub role_word : Geometry → Role → ℕ
role_word g (NextWord k) = cond (k == 0) (first_free g) (node_at g k + 1)
role_word g DepthWord = g.first_depth
role_word g (DirectoryWord j) = cond (nat_lt j (2 ^ g.first_depth)) (first_table g j) 0
role_word g (BirthWord t) = first_birth g.first_depth ((t - first_table g 0) / table_words g)
role_word g (HeaderWord t) = plain_header g.first_depth
role_word g (LockWord t) = 0
role_word g ReservedWord = 0
role_word g (ChildWord t i) = 0
role_word g (BucketWord t m) = plain_header g.first_depth
role_word g (SlotWord t p) = 0
role_word g HeapWord = 0

-- the opening word at an address
unfoldable pub opening_word : Geometry → ℕ → ℕ
opening_word g a = role_word g (role_in g a (first_table_of g a))

-- all opening words, by address
unfoldable pub opening : Geometry → List ℕ
opening g = map (opening_word g) (range_with_len 0 g.words)
