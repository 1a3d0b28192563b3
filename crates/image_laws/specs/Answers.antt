-- The slots that answer for a key in the words of a memory, as holders do at a position of a log, and the map of the live slots.
use Rattle.std.specs.Prelude.{◌≡◌, ◌≢◌, ℕ, ◌%◌, ◌^◌, List, map, Some}
use Rattle.std.specs.FinMap as fin
use Rattle.slot_word.specs.declared.slots.Mark.{Mark}
use Rattle.slot_word.specs.declared.slots.Mark.TheVariants.{Live, Copied, Moved}
use Rattle.kv_block.specs.declared.changes.Change.{Change}
use Rattle.kv_block.specs.Packing.{Pair}
use Rattle.bucket_group.specs.ExitLevel.{exit_level}
use Rattle.node_words.specs.declared.geometry.Geometry.{Geometry}
use Rattle.node_words.specs.Addresses.{first_table, header_at, child_at, slot_at}
use Rattle.map_model.specs.Contents.{Contents}
use Rattle.map_model.specs.Machine.{map_after}
use Rattle.verb_log.specs.Decoded.{Body, Full, content, header, birth}
use Rattle.race_laws.specs.Setting.{Setting, hash, places}
use Rattle.race_laws.specs.Standing.{IsIn, IsGone}
use Rattle.image_laws.specs.declared.table.ImageTable.{ImageTable}
use Rattle.image_laws.specs.Walk.{Words, tables, walk}
use Rattle.image_laws.specs.Sound.{pair_from, held}

-- the tables on the chain of a hash: first table `hash mod 2^f`, and behind a table that the key is leaving or has left by its
-- header, the child of the key's exit level there
pub data Chained (g : Geometry) (w : Words) (h : ℕ) : ℕ → Type 0 where
  starts : Chained g w h (first_table g (h % 2 ^ g.first_depth))
  goes_on : (t i c : ℕ) → Chained g w h t → exit_level h (birth (w t)).depth ≡ Some i → IsGone (header (w (header_at t))) i → w (child_at t i) ≡ c → c ≢ 0 → Chained g w h c

-- a word with this mark stands in the slot at place p of table t, and names this block, which packs this pair
pub record Shows (w : Words) (m : Mark) (t p : ℕ) (b : Body) (q : Pair) : Type 0 where
  pub stands : content (w (slot_at t p)) ≡ Full m b
  pub packs : pair_from w b ≡ Some q

-- the slot at place p of table t answers for the key, by this block with this pair: a live word in a candidate slot of a table on the
-- chain, or in a candidate slot of a table of the walk a copy of a block that the same place of its parent has as moved
pub data Answers (s : Setting) (w : Words) (key : List ℕ) : ℕ → ℕ → Body → Pair → Type 0 where
  live : (t p : ℕ) (b : Body) (q : Pair) → Shows w Live t p b q → q.key ≡ key → IsIn p (places s key) → Chained s.geometry w (hash s key) t → Answers s w key t p b q
  copied : (t : ImageTable) (p : ℕ) (b : Body) (q : Pair) → IsIn t (tables s.geometry w) → Shows w Copied t.at p b q → q.key ≡ key → IsIn p (places s key) → content (w (slot_at (birth (w t.at)).parent p)) ≡ Full Moved b → Answers s w key t.at p b q

-- a pair as the change that puts it into the map
abbrev pub sets : Pair → Change
sets q = record { key = q.key; value = Some q.value }

-- the map of the live slots of the walk, which an audit prints
abbrev pub map_held : Setting → Words → Contents
map_held s w = map_after fin.empty (map sets (held w (walk s.geometry w)))
