-- What a clause sees of a log that is kept.
use Rattle.std.specs.Prelude.{ℕ, List}
use Rattle.node_words.specs.declared.geometry.Geometry.{Geometry}
use Rattle.verb_log.specs.declared.entry.Entry.{Entry}

-- the memory's sizes, the entries in order, and how many more fit before memory is asked for
pub record Recorded : Type 0 where
  pub geometry : Geometry
  pub entries : List Entry
  pub room : ℕ

-- what a clause sees of a log with its index: the memory's sizes, and the entries in order
pub record Listed : Type 0 where
  pub geometry : Geometry
  pub entries : List Entry
