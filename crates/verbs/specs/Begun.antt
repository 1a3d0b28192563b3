-- Words of which some opening words are put.
use Rattle.std.specs.Prelude.{◌≡◌, ◌≢◌, ℕ, ◌<◌, ◌≤◌, List, length, slice_index}
use Rattle.node_words.specs.declared.geometry.Geometry.{Geometry}
use Rattle.node_words.specs.Opening.{opening_word}
use Rattle.node_words.specs.Addresses.{node_at}

-- the opening words below an address, and the next words of so many nodes, are put, and all others are 0
pub record Begun (g : Geometry) (upto nodes : ℕ) (words : List ℕ) : Type 0 where
  pub len : length words ≡ g.words
  pub front : (a : ℕ) → a < upto → slice_index words a ≡ opening_word g a
  pub nexts : (k : ℕ) → k < nodes → slice_index words (node_at g k) ≡ opening_word g (node_at g k)
  pub rest : (a : ℕ) → upto ≤ a → ((k : ℕ) → k < nodes → a ≢ node_at g k) → slice_index words a ≡ 0
