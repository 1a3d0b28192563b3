-- Blocks that some slot has named, and their words.
use Rattle.std.specs.Prelude.{◌≡◌, ℕ, ◌+◌, ◌<◌, ◌≤◌, true, List, Some, None}
use Rattle.kv_block.specs.Packing.{Pair}
use Rattle.node_words.specs.declared.geometry.Geometry.{Geometry}
use Rattle.verb_log.specs.Decoded.{Body}
use Rattle.verb_log.specs.Tables.{Past, pair_at, words_at, table_of, is_published}

-- the block packs a pair, each of its words was published, and none stands in a table
pub record Named (g : Geometry) (past : Past) (b : Body) : Type 0 where
  pub pair : Pair
  pub packs : pair_at g past b ≡ Some pair
  pub published : (a : ℕ) → b.at ≤ a → a < b.at + b.length → is_published g past a ≡ true
  pub outside : (a : ℕ) → b.at ≤ a → a < b.at + b.length → table_of g past a ≡ None

-- these are the words of a named block at an address
abbrev pub PublishedIn : Geometry → Past → ℕ → List ℕ → Type 0
PublishedIn g past at words = (b : Body) × (b.at ≡ at) × Named g past b × (words ≡ words_at g past b.at b.length)
