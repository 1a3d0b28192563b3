-- The slot words that an audit keeps by their keys, and the map that it makes of them at its end.
use Rattle.std.specs.Prelude.{◌≡◌, ℕ, ◌+◌, ◌-◌, ◌*◌, ◌/◌, ◌<◌, nat_lt, if◌then◌else◌, List, length, map, slice_get, Some, None}
use Rattle.std.specs.FinMap as fin
use Rattle.std.specs.BTreeMap as tree
use Rattle.std.specs.BTreeMap.{BTreeMap}
use Rattle.slot_word.specs.declared.slots.Mark.TheVariants.{Live}
use Rattle.kv_block.specs.Bytes.{key_cmp}
use Rattle.kv_block.specs.Packing.{Pair}
use Rattle.map_model.specs.Contents.{Contents}
use Rattle.map_model.specs.Machine.{map_after}
use Rattle.node_words.specs.declared.geometry.Geometry.{Geometry}
use Rattle.verb_log.specs.Decoded.{Body, Full, content}
use Rattle.image_laws.specs.Walk.{Words, walk}
use Rattle.image_laws.specs.Sound.{AreTaken, pair_from, held}
use Rattle.image_laws.specs.Answers.{sets}

-- a slot word for each key
abbrev pub Blocks : Type 0
Blocks = BTreeMap (List ℕ) ℕ

-- a live word whose block lies in taken words and packs this pair
pub record HoldsPair (g : Geometry) (w : Words) (word : ℕ) (q : Pair) : Type 0 where
  pub body : Body
  pub stands : content word ≡ Full Live body
  pub taken : AreTaken g w body.at body.length
  pub packs : pair_from w body ≡ Some q

-- a word that holds a pair of this map
pub record IsHeld (g : Geometry) (w : Words) (m : Contents) (word : ℕ) : Type 0 where
  pub pair : Pair
  pub holds : HoldsPair g w word pair
  pub has : fin.get m pair.key ≡ Some pair.value

-- the words that are kept hold the pairs of this map, each by its key
pub record Hold (g : Geometry) (w : Words) (blocks : Blocks) (m : Contents) : Type 0 where
  pub words : (key : List ℕ) (word : ℕ) → tree.get key_cmp blocks key ≡ Some word → (h : IsHeld g w m word) × (h.pair.key ≡ key)
  pub lacks : (key : List ℕ) → tree.get key_cmp blocks key ≡ None → fin.get m key ≡ None

-- the map of the live slots of the walk, which no key's hash decides
abbrev pub map_walked : Geometry → Words → Contents
map_walked g w = map_after fin.empty (map sets (held w (walk g w)))

-- the place whose pair is put in a turn: first those at odd places, then those at even ones
abbrev pub place_at : ℕ → ℕ → ℕ
place_at turn count = if nat_lt turn (count / 2) then 2 * turn + 1 else 2 * (turn - count / 2)

-- each pair of a map is one of another
abbrev pub Within : Contents → Contents → Type 0
Within n m = (key value : List ℕ) → fin.get n key ≡ Some value → fin.get m key ≡ Some value

-- a map has the pair that a word holds
abbrev pub IsPut : Geometry → Words → Contents → ℕ → Type 0
IsPut g w n word = (q : Pair) → HoldsPair g w word q → fin.get n q.key ≡ Some q.value

-- a map has pairs of another alone, and those that the words of the first turns hold
pub record Filled (g : Geometry) (w : Words) (m n : Contents) (words : List ℕ) (turns : ℕ) : Type 0 where
  pub within : Within n m
  pub put : (turn word : ℕ) → turn < turns → slice_get words (place_at turn (length words)) ≡ Some word → IsPut g w n word
