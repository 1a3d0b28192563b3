-- The words that an image has of the words of a memory, and its bytes.
use Rattle.std.specs.Prelude.{ℕ, ◌-◌, List, map}
use Rattle.std.specs.List.{range_with_len}
use Rattle.kv_block.specs.Packing.{bytes_of}
use Rattle.key_hash.specs.Placing.{Pairs}
use Rattle.node_words.specs.declared.geometry.Geometry.{Geometry}
use Rattle.node_words.specs.Addresses.{node_at}
use Rattle.image_laws.specs.Walk.{Words}
use Rattle.image_laws.specs.Sound.{words_from}
use Rattle.node_image.specs.Numbers.{numbers_of}

-- of node k, its words up to the one before its next word
abbrev pub part_of : Geometry → Words → ℕ → List ℕ
part_of g w k = words_from w (node_at g k) (w (node_at g k) - node_at g k)

-- of each node
abbrev pub parts_of : Geometry → Words → List (List ℕ)
parts_of g w = map (part_of g w) (range_with_len 0 g.nodes)

-- the bytes of an image: its numbers, each as eight bytes, the lowest first
unfoldable pub image_bytes : Geometry → Pairs → List (List ℕ) → List ℕ
image_bytes g listed nodes = bytes_of (numbers_of g listed nodes)
