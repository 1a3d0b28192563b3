-- The walk of a memory's words: the tables that the first tables lead to, and the words that are looked at, in order.
use Rattle.std.specs.Prelude.{◌≡◌, ℕ, zero, suc, ◌+◌, ◌^◌, ◌==◌, nat_lt, cond, List, [], ◌∷◌, ◌++◌, map}
use Rattle.std.specs.List.{range_with_len, flat_map}
use Rattle.node_words.specs.declared.geometry.Geometry.{Geometry}
use Rattle.node_words.specs.Addresses.{table_words, first_table, child_at, directory_at}
use Rattle.node_words.specs.Roles.{Role, ChildWord, offset_role}
use Rattle.image_laws.specs.declared.table.ImageTable.{ImageTable}

-- the words of a memory, by address
abbrev pub Words : Type 0
Words = ℕ → ℕ

-- first table j
abbrev pub first_of : Geometry → ℕ → ImageTable
first_of g j = record { at = first_table g j; depth = g.first_depth; suffix = j; parent = 0 }

-- the first tables, by index
abbrev pub firsts : Geometry → List ImageTable
firsts g = map (first_of g) (range_with_len 0 (2 ^ g.first_depth))

-- the child of level i
abbrev pub child_of : Words → ImageTable → ℕ → ImageTable
child_of w t i = record { at = w (child_at t.at i); depth = i + 1; suffix = t.suffix + 2 ^ i; parent = t.at }

-- none where the child word is 0, or of a level below the table's birth depth
abbrev pub child_if : Words → ImageTable → ℕ → List ImageTable
child_if w t i = cond (nat_lt i t.depth) [] (cond (w (child_at t.at i) == 0) [] (child_of w t i ∷ []))

-- the tables that a word of a table names, by its role
abbrev pub named_as : Words → ImageTable → Role → List ImageTable
named_as w t (ChildWord u i) = child_if w t i
named_as w t _ = []

-- the tables that word o of a table names
abbrev pub named_at : Words → ImageTable → ℕ → List ImageTable
named_at w t o = named_as w t (offset_role t.at o)

-- the children of a table, by level
abbrev pub children : Geometry → Words → ImageTable → List ImageTable
children g w t = flat_map (named_at w t) (range_with_len 0 (table_words g))

-- tables, then their children, then the children of these, and so on n times
unfoldable pub reach : Geometry → ℕ → Words → List ImageTable → List ImageTable
reach g zero w ts = []
reach g (suc n) w ts = ts ++ reach g n w (flat_map (children g w) ts)

-- all tables, in the order of the walk: a child is born deeper than its parent and no deeper than 16, so 17 times are enough
-- for any words
unfoldable pub tables : Geometry → Words → List ImageTable
tables g w = reach g 17 w (firsts g)

-- a word of the walk: word o of a table, the global depth, or directory word j
pub data WalkWord : Type 0 where
  TableWord : ImageTable → ℕ → WalkWord
  GlobalDepth : WalkWord
  DirectoryEntry : ℕ → WalkWord

abbrev pub address_of : WalkWord → ℕ
address_of (TableWord t o) = t.at + o
address_of GlobalDepth = 1
address_of (DirectoryEntry j) = directory_at j

-- the words of a table, by address
abbrev pub words_of : Geometry → ImageTable → List WalkWord
words_of g t = map (TableWord t) (range_with_len 0 (table_words g))

-- the words behind those of the tables: the global depth, then n directory words
abbrev pub last_words : ℕ → List WalkWord
last_words n = GlobalDepth ∷ map DirectoryEntry (range_with_len 0 n)

-- the words of each table, then the global depth, then the directory
unfoldable pub walk : Geometry → Words → List WalkWord
walk g w = flat_map (words_of g) (tables g w) ++ last_words (2 ^ g.max_depth)

-- the first of these words that breaks its rule, given those before it: each of those before it meets its own
pub record FirstBreak (R : List WalkWord → WalkWord → Type 0) (words : List WalkWord) (x : WalkWord) : Type 0 where
  pub before : List WalkWord
  pub after : List WalkWord
  pub is : words ≡ before ++ x ∷ after
  pub meets : (front rest : List WalkWord) (y : WalkWord) → before ≡ front ++ y ∷ rest → R front y
  pub breaks : R before x → ⊥
