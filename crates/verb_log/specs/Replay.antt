-- A log in order, oldest entry first: the words after it, which logs are well made, and the kind of each entry.
use Rattle.std.specs.Prelude.{◌≡◌, ℕ, ◌<◌, List, [], ◌∷◌, reverse, take, slice_get, slice_set, Option, Some, None}
use Rattle.node_words.specs.declared.geometry.Geometry.{Geometry}
use Rattle.node_words.specs.Opening.{opening}
use Rattle.verb_log.specs.declared.entry.Entry.{Entry}
use Rattle.verb_log.specs.declared.kind.Kind.{Kind}
use Rattle.verb_log.specs.Tables.{Past, word_at}
use Rattle.verb_log.specs.Kinds.{kind}

-- these words, with each entry's new word put at its address, in order
abbrev pub replay_from : List ℕ → List Entry → List ℕ
replay_from words [] = words
replay_from words (e ∷ log) = replay_from (slice_set words e.at e.new) log

-- the words after a log
unfoldable pub replay : Geometry → List Entry → List ℕ
replay g log = replay_from (opening g) log

-- an entry may follow a log: it stands below the memory's words, and its old word is the one that stands there
pub record Follows (g : Geometry) (past : Past) (e : Entry) : Type 0 where
  pub within : e.at < g.words
  pub old : e.old ≡ word_at g past e.at

-- each entry may follow those before it, newest first
abbrev pub IsMade : Geometry → Past → Type 0
IsMade g [] = Unit {0}
IsMade g (e ∷ past) = Follows g past e × IsMade g past

-- the same of a log in order
abbrev pub WellMade : Geometry → List Entry → Type 0
WellMade g log = IsMade g (reverse log)

-- the kind of an entry that may be there
abbrev pub kind_of_some : Geometry → Past → Option Entry → Option Kind
kind_of_some g past None = None
kind_of_some g past (Some e) = kind g past e

-- the kind of the entry at a place of a log, in the log before it
abbrev pub kind_at : Geometry → List Entry → ℕ → Option Kind
kind_at g log n = kind_of_some g (reverse (take n log)) (slice_get log n)
