-- What stands in the words of a table at a position of a log.
use Rattle.std.specs.Prelude.{◌≡◌, ℕ, ◌<◌, ◌≤◌, List, [], ◌∷◌, Some, ◌⊎◌}
use Rattle.slot_word.specs.declared.slots.Mark.{Mark}
use Rattle.slot_word.specs.declared.births.Birth.{Birth}
use Rattle.kv_block.specs.Packing.{Pair}
use Rattle.bucket_group.specs.ExitLevel.{exit_level}
use Rattle.node_words.specs.declared.geometry.Geometry.{Geometry}
use Rattle.node_words.specs.Addresses.{header_at, lock_at, child_at, slot_at, bucket_header_at}
use Rattle.verb_log.specs.Decoded.{Body, Content, Full, content, Header, PlainAt, SplittingAt, FillingAt, NoHeader, header, birth}
use Rattle.verb_log.specs.Tables.{Past, word_at, pair_at, table_of}
use Rattle.race_laws.specs.Setting.{Setting, hash, main_of}

-- t is the address of a table of the log
abbrev pub IsTable : Geometry → Past → ℕ → Type 0
IsTable g past t = table_of g past t ≡ Some t

abbrev pub header_in : Geometry → Past → ℕ → Header
header_in g past t = header (word_at g past (header_at t))

abbrev pub birth_in : Geometry → Past → ℕ → Birth
birth_in g past t = birth (word_at g past t)

abbrev pub lock_in : Geometry → Past → ℕ → ℕ
lock_in g past t = word_at g past (lock_at t)

-- the child word of level i: 0, or the child's address
abbrev pub child_in : Geometry → Past → ℕ → ℕ → ℕ
child_in g past t i = word_at g past (child_at t i)

-- the header of main bucket m
abbrev pub bucket_in : Geometry → Past → ℕ → ℕ → Header
bucket_in g past t m = header (word_at g past (bucket_header_at t m))

-- what stands in the slot at place p
abbrev pub place_in : Geometry → Past → ℕ → ℕ → Content
place_in g past t p = content (word_at g past (slot_at t p))

-- the key's header: that of its first main bucket
abbrev pub key_header : Setting → Past → ℕ → List ℕ → Header
key_header s past t key = bucket_in s.geometry past t (main_of s key)

-- the depth that a header says, 0 where the word is no header
abbrev pub depth : Header → ℕ
depth (PlainAt d) = d
depth (SplittingAt d) = d
depth (FillingAt d) = d
depth NoHeader = 0

abbrev pub IsFilling : Header → Type 0
IsFilling (FillingAt d) = Unit {0}
IsFilling _ = ⊥

abbrev pub IsPlain : Header → Type 0
IsPlain (PlainAt d) = Unit {0}
IsPlain _ = ⊥

-- by this header of its table a key with exit level i is leaving (the table splits at i) or has left (the depth is above i)
abbrev pub IsGone : Header → ℕ → Type 0
IsGone (PlainAt d) i = i < d
IsGone (SplittingAt d) i = i ≤ d
IsGone (FillingAt d) i = i < d
IsGone NoHeader i = ⊥

-- the exit level of the key in the table is i
abbrev pub Exits : Setting → Past → ℕ → List ℕ → ℕ → Type 0
Exits s past t key i = exit_level (hash s key) (birth_in s.geometry past t).depth ≡ Some i

-- the key stays in the table by this header
abbrev pub Stays : Setting → Past → ℕ → List ℕ → Header → Type 0
Stays s past t key h = (i : ℕ) → Exits s past t key i → IsGone h i → ⊥

-- a word with this mark stands in the slot, and names this block, which packs this pair
pub record Word (g : Geometry) (past : Past) (m : Mark) (t p : ℕ) (b : Body) (q : Pair) : Type 0 where
  pub stands : place_in g past t p ≡ Full m b
  pub packs : pair_at g past b ≡ Some q

-- one of the elements of a list
abbrev pub IsIn : {A : Type 0} → A → List A → Type 0
IsIn p [] = ⊥
IsIn p (q ∷ qs) = (p ≡ q) ⊎ IsIn p qs
