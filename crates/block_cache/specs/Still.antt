-- Words that no one changes, on which the tests use a cache.
use Rattle.std.specs.Prelude.{◌≡◌, ℕ, ◌+◌, ◌<◌, ◌≤◌, List, length, slice_index}
use Rattle.node_words.specs.declared.geometry.Geometry.{Geometry}
use Rattle.kv_block.specs.Packing.{HasShape}
use Rattle.verbs.specs.Logs.{Entries, word}
use Rattle.verbs.specs.Terms.{Terms}

-- words stand at an address after a log, and have the shape of a block's
pub record StandsAt (g : Geometry) (l : Entries) (at : ℕ) (words : List ℕ) : Type 0 where
  pub shape : HasShape words
  pub within : at + length words ≤ g.words
  pub stands : (i : ℕ) → i < length words → word g l (at + i) ≡ slice_index words i

-- the terms of a handle on such words: no entry may follow, no one else adds one, and a block is published where its words stand
abbrev pub still : Geometry → Terms
still g = record { geometry = g; rule = λ l e. ⊥; grows = λ l m. l ≡ m; client = 0; published = StandsAt g }
