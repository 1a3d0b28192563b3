-- What an audit keeps of the words that it has walked.
use Rattle.std.specs.Prelude.{◌≡◌, ◌≢◌, ℕ, ◌+◌, ◌%◌, ◌^◌, ◌<◌, ◌≤◌, Bool, true, false, List, [], ◌∷◌, ◌++◌, map, cond, length, take, slice_index_or, Option, Some, None, MatchOption, ◌⊎◌}
use Rattle.std.specs.List.{flat_map}
use Rattle.std.specs.FinMap as fin
use Rattle.std.specs.Ordering.{nat_cmp}
use Rattle.std.specs.BTreeMap as tree
use Rattle.std.specs.BTreeMap.{BTreeMap, is_at}
use Rattle.kv_block.specs.Bytes.{key_cmp}
use Rattle.key_hash.specs.Placing.{Pairs}
use Rattle.map_model.specs.Machine.{map_after}
use Rattle.node_words.specs.declared.geometry.Geometry.{Geometry}
use Rattle.node_words.specs.Addresses.{table_words}
use Rattle.verb_log.specs.Decoded.{Header, PlainAt}
use Rattle.bucket_group.specs.Buckets.{candidates, fingerprint_of}
use Rattle.bucket_group.specs.ExitLevel.{exit_level}
use Rattle.race_laws.specs.Standing.{IsIn}
use Rattle.race_laws.specs.Setting.{Setting}
use Rattle.image_laws.specs.declared.table.ImageTable.{ImageTable}
use Rattle.image_laws.specs.Pairwise.{Pairwise}
use Rattle.image_laws.specs.Walk.{Words, WalkWord, words_of, tables as all_tables}
use Rattle.image_laws.specs.Sound.{IsTaken, AreTaken, named_by, listed_by, held, Rule}
use Rattle.image_laws.specs.Answers.{sets}
use Rattle.image_audit.specs.Breaks.{AllMeet, Breaks}
use Rattle.image_audit.specs.Held.{Blocks, Hold}

abbrev pub setting_of : Geometry → Pairs → Setting
setting_of g listed = record { geometry = g; listed = listed }

-- n words from an address on that were taken, and whose cells no table has
abbrev pub AreFree : Geometry → Words → (ℕ → ℕ) → List Bool → ℕ → ℕ → Type 0
AreFree g w place marked at n = (a : ℕ) → at ≤ a → a < at + n → IsTaken g w a × (slice_index_or marked (place a) false ≡ false)

-- n words from an address on are given to a table
pub record Marks (place : ℕ → ℕ) (old new : List Bool) (at n : ℕ) : Type 0 where
  pub size : length new ≡ length old
  pub kept : (j : ℕ) → slice_index_or old j false ≡ true → slice_index_or new j false ≡ true
  pub put : (a : ℕ) → at ≤ a → a < at + n → slice_index_or new (place a) false ≡ true
  pub only : (j : ℕ) → slice_index_or new j false ≡ true → (slice_index_or old j false ≡ true) ⊎ ((a : ℕ) × (at ≤ a) × (a < at + n) × (place a ≡ j))

-- the tables that were named so far, the cells of their words, and the slot words of the pairs so far, by their keys
pub record Kept (s : Setting) (w : Words) (place : ℕ → ℕ) (cells : ℕ) (before : List WalkWord) (tables : List ImageTable) (marked : List Bool) (blocks : Blocks) : Type 0 where
  pub listed : tables ≡ listed_by s.geometry w before
  pub size : length marked ≡ cells
  pub taken : (u : ImageTable) → IsIn u (flat_map (named_by w) before) → AreTaken s.geometry w u.at (table_words s.geometry)
  pub given : (u : ImageTable) → IsIn u (flat_map (named_by w) before) → (a : ℕ) → u.at ≤ a → a < u.at + table_words s.geometry → slice_index_or marked (place a) false ≡ true
  pub only : (j : ℕ) → slice_index_or marked j false ≡ true → (u : ImageTable) × IsIn u (flat_map (named_by w) before) × (a : ℕ) × (u.at ≤ a) × (a < u.at + table_words s.geometry) × (place a ≡ j)
  pub once : Pairwise (λ (t u : ImageTable). t.at ≢ u.at) (listed_by s.geometry w before)
  pub map : Hold s.geometry w blocks (map_after fin.empty (map sets (held w before)))

-- a word of the walk is judged: whether it meets its rule, given the words before it; where it does, what is kept goes on
abbrev pub Judged : Setting → Words → (ℕ → ℕ) → ℕ → WalkWord → Bool → List ImageTable → List Bool → Blocks → List ImageTable → List Bool → Blocks → Type 0
Judged s w place cells x fine tables marked blocks tables2 marked2 blocks2 =
    (before : List WalkWord) → Kept s w place cells before tables marked blocks → (fine ≡ true → Rule s w before x × Kept s w place cells (before ++ x ∷ []) tables2 marked2 blocks2) × (fine ≡ false → Rule s w before x → ⊥)

-- the numbers of a table of the walk
pub record IsSmall (t : ImageTable) : Type 0 where
  pub at : t.at < 2 ^ 24
  pub depth : t.depth ≤ 16
  pub suffix : t.suffix < 2 ^ t.depth
  pub parent : t.parent < 2 ^ 24

abbrev pub AllSmall : List ImageTable → Type 0
AllSmall ts = (t : ImageTable) → IsIn t ts → IsSmall t

-- these words were walked: all meet their rules, or the walk ended at the first that does not
abbrev pub Walked : Setting → Words → (ℕ → ℕ) → ℕ → List WalkWord → Option ℕ → List ImageTable → List Bool → Blocks → List ImageTable → List Bool → Blocks → Type 0
Walked s w place cells xs stop tables marked blocks tables2 marked2 blocks2 =
    (before : List WalkWord) → Kept s w place cells before tables marked blocks → MatchOption stop (AllMeet (Rule s w) before xs × Kept s w place cells (before ++ xs) tables2 marked2 blocks2) (λ at. Breaks (Rule s w) before xs at)

-- a plain header with a depth between two
abbrev pub IsPlainWithin : ℕ → ℕ → Header → Type 0
IsPlainWithin from to (PlainAt d) = (from ≤ d) × (d ≤ to)
IsPlainWithin from to _ = ⊥

-- these words were walked, and all meet their rules
pub record SoFar (s : Setting) (w : Words) (place : ℕ → ℕ) (count : ℕ) (xs : List WalkWord) (ts : List ImageTable) (ms : List Bool) (m : Blocks) (us : List ImageTable) (ns : List Bool) (n : Blocks) : Type 0 where
  pub walked : (before : List WalkWord) → Kept s w place count before ts ms m → AllMeet (Rule s w) before xs × Kept s w place count (before ++ xs) us ns n
  pub cells : length ns ≡ count
  pub small : AllSmall ts → AllSmall us

-- the words of the first k tables were walked, and all meet their rules
pub record Through (s : Setting) (w : Words) (place : ℕ → ℕ) (count k : ℕ) (us : List ImageTable) (ns : List Bool) (n : Blocks) : Type 0 where
  pub meets : AllMeet (Rule s w) [] (flat_map (words_of s.geometry) (take k (all_tables s.geometry w)))
  pub kept : Kept s w place count (flat_map (words_of s.geometry) (take k (all_tables s.geometry w))) us ns n
  pub low : k ≤ length us
  pub small : AllSmall us

-- a key of this hash may stand at this place of the table, with this fingerprint
pub record IsAtHome (groups h : ℕ) (t : ImageTable) (d place print : ℕ) : Type 0 where
  pub same_print : print ≡ fingerprint_of h
  pub suffix : h % 2 ^ t.depth ≡ t.suffix
  pub stays : (i : ℕ) → exit_level h t.depth ≡ Some i → d ≤ i
  pub candidate : IsIn place (candidates groups h)

-- a word is kept by a key that had none, or the key had one
abbrev pub IsKeptBlock : Bool → Blocks → Blocks → List ℕ → ℕ → Type 0
IsKeptBlock true m n key word = (tree.get key_cmp m key ≡ None) × ((q : List ℕ) → tree.get key_cmp n q ≡ cond (is_at (key_cmp key) q) (Some word) (tree.get key_cmp m q))
IsKeptBlock false m n key word = (old : ℕ) × (tree.get key_cmp m key ≡ Some old)

-- the tables by their addresses
pub record Indexes (m : BTreeMap ℕ ImageTable) (ts : List ImageTable) : Type 0 where
  pub found : (a : ℕ) (t : ImageTable) → tree.get nat_cmp m a ≡ Some t → IsIn t ts × (t.at ≡ a)
  pub all : (t : ImageTable) → IsIn t ts → tree.get nat_cmp m t.at ≢ None

-- an index of all tables of the walk, which no two words of it name
pub record IndexesAll (g : Geometry) (w : Words) (m : BTreeMap ℕ ImageTable) : Type 0 where
  pub tables : List ImageTable
  pub indexes : Indexes m tables
  pub all : tables ≡ all_tables g w
  pub small : AllSmall tables
  pub once : Pairwise (λ (t u : ImageTable). t.at ≢ u.at) tables
