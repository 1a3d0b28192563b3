-- The numbers of an image, in order.
use Rattle.std.specs.Prelude.{◌≡◌, ℕ, ◌+◌, List, [], ◌∷◌, ◌++◌, length, slice_get, Some}
use Rattle.std.specs.List.{flat_map}
use Rattle.byteorder.specs.Endian.{little_number}
use Rattle.kv_block.specs.Bytes.{IsKeyLength, AreBytes}
use Rattle.kv_block.specs.Packing.{packed, words_for}
use Rattle.key_hash.specs.Placing.{Pairs, AreDistinct}
use Rattle.node_words.specs.declared.geometry.Geometry.{Geometry}
use Rattle.race_laws.specs.Standing.{IsIn}
use Rattle.image_audit.specs.Shape.{IsNode}

-- the bytes RACEIMG1 as a number
abbrev pub magic : ℕ
magic = little_number 8 (82 ∷ 65 ∷ 67 ∷ 69 ∷ 73 ∷ 77 ∷ 71 ∷ 49 ∷ [])

-- RACEIMG1, then groups, greatest depth, first depth, nodes and words
abbrev pub head_of : Geometry → List ℕ
head_of g = magic ∷ g.groups ∷ g.max_depth ∷ g.first_depth ∷ g.nodes ∷ g.words ∷ []

-- a listed key: its length and its bytes, padded with zeros to whole numbers, as in the block of the key with an empty value; then
-- its hash
abbrev pub entry_of : List ℕ × ℕ → List ℕ
entry_of p = packed p.0 [] ++ p.1 ∷ []

-- the length, the bytes and the hash
abbrev pub entry_length : List ℕ × ℕ → ℕ
entry_length p = 2 + words_for (length p.0)

abbrev pub entries_of : Pairs → List ℕ
entries_of listed = flat_map entry_of listed

-- the words of all nodes, one node after the other
abbrev pub words_of_nodes : List (List ℕ) → List ℕ
words_of_nodes nodes = flat_map (λ v. v) nodes

-- the whole: the head, the number of listed keys, these, the nodes' words
abbrev pub numbers_of : Geometry → Pairs → List (List ℕ) → List ℕ
numbers_of g listed nodes = head_of g ++ length listed ∷ (entries_of listed ++ words_of_nodes nodes)

-- a key that may be listed
pub record IsKey (p : List ℕ × ℕ) : Type 0 where
  pub length : IsKeyLength (length p.0)
  pub bytes : AreBytes p.0

abbrev pub AreKeys : Pairs → Type 0
AreKeys listed = (p : List ℕ × ℕ) → IsIn p listed → IsKey p

-- each node's words
pub record AreNodes (g : Geometry) (nodes : List (List ℕ)) : Type 0 where
  pub count : length nodes ≡ g.nodes
  pub node : (k : ℕ) (v : List ℕ) → slice_get nodes k ≡ Some v → IsNode g k v

-- numbers that are those of an image
pub record AreNumbers (numbers : List ℕ) (g : Geometry) (listed : Pairs) (nodes : List (List ℕ)) : Type 0 where
  pub are : numbers ≡ numbers_of g listed nodes
  pub keys : AreKeys listed
  pub distinct : AreDistinct listed
  pub stand : AreNodes g nodes
