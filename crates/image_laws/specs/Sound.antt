-- Sound images: each word of the walk meets its rule.
use Rattle.std.specs.Prelude.{◌≡◌, ◌≢◌, ℕ, zero, suc, ◌+◌, ◌%◌, ◌^◌, ◌<◌, ◌≤◌, List, [], ◌∷◌, ◌++◌, Option, Some, None, ◌⊎◌}
use Rattle.std.specs.List.{flat_map}
use Rattle.slot_word.specs.declared.slots.Mark.TheVariants.{Live}
use Rattle.slot_word.specs.Births.{birth_word}
use Rattle.kv_block.specs.Packing.{Pair, unpacked}
use Rattle.bucket_group.specs.ExitLevel.{exit_level}
use Rattle.node_words.specs.declared.geometry.Geometry.{Geometry}
use Rattle.node_words.specs.Addresses.{node_size, node_at, table_words, header_at, child_at, slot_at, directory_at}
use Rattle.node_words.specs.Roles.{Role, BirthWord, HeaderWord, LockWord, ReservedWord, ChildWord, BucketWord, SlotWord, offset_role}
use Rattle.verb_log.specs.Decoded.{Body, Content, Full, content, PlainAt, header}
use Rattle.race_laws.specs.Setting.{Setting, hash, places, print_of, base}
use Rattle.race_laws.specs.Standing.{IsIn, depth}
use Rattle.image_laws.specs.declared.table.ImageTable.{ImageTable}
use Rattle.image_laws.specs.Walk.{Words, firsts, named_at, tables, WalkWord, TableWord, GlobalDepth, DirectoryEntry, FirstBreak, walk}

-- a taken address: for one node, from the number of its next word in the opening on, and below the one that stands there
pub record IsTaken (g : Geometry) (w : Words) (a : ℕ) : Type 0 where
  pub node : ℕ
  pub is_node : node < g.nodes
  pub from : base g node ≤ a
  pub to : a < w (node_at g node)

-- each of the n words from an address on
abbrev pub AreTaken : Geometry → Words → ℕ → ℕ → Type 0
AreTaken g w at n = (a : ℕ) → at ≤ a → a < at + n → IsTaken g w a

-- the n words from a on
abbrev pub words_from : Words → ℕ → ℕ → List ℕ
words_from w a zero = []
words_from w a (suc n) = w a ∷ words_from w (suc a) n

-- the pair of a block
abbrev pub pair_from : Words → Body → Option Pair
pair_from w b = unpacked (words_from w b.at b.length)

-- the depth of a table, by its header
abbrev pub depth_in : Words → ℕ → ℕ
depth_in w t = depth (header (w (header_at t)))

-- the tables that a word of the walk names
abbrev pub named_by : Words → WalkWord → List ImageTable
named_by w (TableWord t o) = named_at w t o
named_by w _ = []

-- the tables of the list as far as these words of the walk have named them
abbrev pub listed_by : Geometry → Words → List WalkWord → List ImageTable
listed_by g w before = firsts g ++ flat_map (named_by w) before

abbrev pub one_pair : Option Pair → List Pair
one_pair (Some pair) = pair ∷ []
one_pair None = []

-- the pair of a live word's block
abbrev pub held_in : Words → Content → List Pair
held_in w (Full Live b) = one_pair (pair_from w b)
held_in w _ = []

abbrev pub held_as : Words → ImageTable → Role → List Pair
held_as w t (SlotWord u p) = held_in w (content (w (slot_at t.at p)))
held_as w t _ = []

abbrev pub held_by : Words → WalkWord → List Pair
held_by w (TableWord t o) = held_as w t (offset_role t.at o)
held_by w _ = []

-- the pairs of the blocks that stand live in the slots among these words of the walk, in their order
abbrev pub held : Words → List WalkWord → List Pair
held w words = flat_map (held_by w) words

-- the header is plain, with a depth from the birth depth to the greatest
pub record HeaderRule (g : Geometry) (w : Words) (t : ImageTable) : Type 0 where
  pub depth : ℕ
  pub plain : header (w (header_at t.at)) ≡ PlainAt depth
  pub from : t.depth ≤ depth
  pub to : depth ≤ g.max_depth

-- two tables have no word in common
abbrev pub Apart : Geometry → ℕ → ℕ → Type 0
Apart g t u = (t + table_words g ≤ u) ⊎ (u + table_words g ≤ t)

-- the child word of level i is not 0 exactly for i from the birth depth to the depth less 1; it then names a region of table
-- size whose addresses are taken and which overlaps no table that stands in the list before it
pub record ChildRule (g : Geometry) (w : Words) (before : List WalkWord) (t : ImageTable) (i : ℕ) : Type 0 where
  pub only : w (child_at t.at i) ≢ 0 → (t.depth ≤ i) × (i < depth_in w t.at)
  pub all : t.depth ≤ i → i < depth_in w t.at → w (child_at t.at i) ≢ 0
  pub taken : w (child_at t.at i) ≢ 0 → AreTaken g w (w (child_at t.at i)) (table_words g)
  pub apart : w (child_at t.at i) ≢ 0 → (u : ImageTable) → IsIn u (listed_by g w before) → Apart g (w (child_at t.at i)) u.at

-- a slot with a live word: its block lies in taken words and reads as a pair with the stated length and fingerprint; the pair's
-- key stays in this table by its chain, has this slot as a candidate, and stands in no earlier slot of the walk. That the key
-- stays by its chain is said by two facts: the table's suffix is its hash's, and the table's depth has not passed its exit level
pub record LiveSlot (s : Setting) (w : Words) (before : List WalkWord) (t : ImageTable) (p : ℕ) : Type 0 where
  pub body : Body
  pub pair : Pair
  pub stands : content (w (slot_at t.at p)) ≡ Full Live body
  pub taken : AreTaken s.geometry w body.at body.length
  pub packs : pair_from w body ≡ Some pair
  pub print : body.print ≡ print_of s pair.key
  pub suffix : t.suffix ≡ hash s pair.key % 2 ^ t.depth
  pub stays : (i : ℕ) → exit_level (hash s pair.key) t.depth ≡ Some i → depth_in w t.at ≤ i
  pub candidate : IsIn p (places s pair.key)
  pub once : (q : Pair) → IsIn q (held w before) → q.key ≢ pair.key

-- what a word of a table must be that depends on more words than the header, by its role
abbrev pub TableRule : Setting → Words → List WalkWord → ImageTable → Role → Type 0
TableRule s w before t (BirthWord u) = w t.at ≡ birth_word (record { depth = t.depth; suffix = t.suffix; parent = t.parent })
TableRule s w before t (HeaderWord u) = HeaderRule s.geometry w t
TableRule s w before t (ChildWord u i) = ChildRule s.geometry w before t i
TableRule s w before t (SlotWord u p) = (w (slot_at t.at p) ≡ 0) ⊎ LiveSlot s w before t p
TableRule s w before t _ = Unit {0}

-- lock, word 3 and word 0 of an overflow bucket are 0, a bucket header equals the header
abbrev pub PlainRule : Words → ImageTable → ℕ → Role → Type 0
PlainRule w t o (LockWord u) = w (t.at + o) ≡ 0
PlainRule w t o ReservedWord = w (t.at + o) ≡ 0
PlainRule w t o (BucketWord u m) = w (t.at + o) ≡ w (header_at t.at)
PlainRule w t o _ = Unit {0}

-- the global depth is from the first depth to the greatest
pub record GlobalDepthRule (g : Geometry) (w : Words) : Type 0 where
  pub from : g.first_depth ≤ w 1
  pub to : w 1 ≤ g.max_depth

-- directory word j names a table of the list with the suffix of j
pub record Names (g : Geometry) (w : Words) (j : ℕ) : Type 0 where
  pub table : ImageTable
  pub is_listed : IsIn table (tables g w)
  pub is : w (directory_at j) ≡ table.at
  pub suffix : table.suffix ≡ j % 2 ^ table.depth

-- directory word j is 0, which it may be from 2^(global depth) on, or names a table
abbrev pub DirectoryRule : Geometry → Words → ℕ → Type 0
DirectoryRule g w j = ((w (directory_at j) ≡ 0) × (2 ^ w 1 ≤ j)) ⊎ Names g w j

-- the rule of a word of the walk, given those before it
abbrev pub Rule : Setting → Words → List WalkWord → WalkWord → Type 0
Rule s w before (TableWord t o) = TableRule s w before t (offset_role t.at o) × PlainRule w t o (offset_role t.at o)
Rule s w before GlobalDepth = GlobalDepthRule s.geometry w
Rule s w before (DirectoryEntry j) = DirectoryRule s.geometry w j

-- each next word lies from its opening value to its node's end, as in a well formed image
abbrev pub NextsFit : Geometry → Words → Type 0
NextsFit g w = (k : ℕ) → k < g.nodes → (base g k ≤ w (node_at g k)) × (w (node_at g k) ≤ node_at g k + node_size g)

-- sound: each word of the walk meets its rule
pub record IsSound (s : Setting) (w : Words) : Type 0 where
  pub nexts : NextsFit s.geometry w
  pub meets : (before after : List WalkWord) (x : WalkWord) → walk s.geometry w ≡ before ++ x ∷ after → Rule s w before x

-- the first word of the walk that breaks its rule
abbrev pub FirstBad : Setting → Words → WalkWord → Type 0
FirstBad s w x = FirstBreak (Rule s w) (walk s.geometry w) x
