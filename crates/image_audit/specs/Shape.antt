-- The words of an image, as they are kept: for each node the words below its next word.
use Rattle.std.specs.Prelude.{◌≡◌, ℕ, ◌+◌, ◌*◌, ◌%◌, ◌≤◌, cond, nat_lt, List, map, length, slice_get, slice_index, Option, Some, None, Vec}
use Rattle.node_words.specs.declared.geometry.Geometry.{Geometry}
use Rattle.node_words.specs.Addresses.{node_size, node_of, node_at}
use Rattle.node_words.specs.Opening.{opening_word}
use Rattle.race_laws.specs.Setting.{base}

-- node k's words in an image: the first is its next word, which names the first word behind them and lies from its opening value to
-- the node's end
pub record IsNode (g : Geometry) (k : ℕ) (xs : List ℕ) : Type 0 where
  pub next : slice_index xs 0 ≡ node_at g k + length xs
  pub from : base g k ≤ node_at g k + length xs
  pub to : length xs ≤ node_size g

-- the same, no longer than the longest node
pub record NodeFits (g : Geometry) (k : ℕ) (xs : List ℕ) (longest : ℕ) : Type 0 where
  pub next : slice_index xs 0 ≡ node_at g k + length xs
  pub from : base g k ≤ node_at g k + length xs
  pub to : length xs ≤ node_size g
  pub short : length xs ≤ longest

pub record ImageFits (g : Geometry) (nodes : List (List ℕ)) (longest : ℕ) : Type 0 where
  pub count : length nodes ≡ g.nodes
  pub node : (k : ℕ) (v : List ℕ) → slice_get nodes k ≡ Some v → NodeFits g k v longest

-- the lists of words
abbrev pub lists_of : {A : Type 0} → List (Vec ℕ A) → List (List ℕ)
lists_of nodes = map (λ v. v.items) nodes

-- the word at an offset of a node, the opening's where the node has none
abbrev pub word_of_node : Geometry → ℕ → Option (List ℕ) → ℕ
word_of_node g a None = opening_word g a
word_of_node g a (Some v) = cond (nat_lt (a % node_size g) (length v)) (slice_index v (a % node_size g)) (opening_word g a)

-- the word at an address: the node's below its next word, and the opening's else
unfoldable pub word_in : Geometry → List (List ℕ) → ℕ → ℕ
word_in g nodes a = word_of_node g a (slice_get nodes (node_of g a))

-- a cell for each offset of each node
unfoldable pub cell_of : Geometry → ℕ → ℕ
cell_of g a = a % node_size g * g.nodes + node_of g a
