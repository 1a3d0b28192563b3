-- The changes of the map that a log makes, oldest first.
use Rattle.std.specs.Prelude.{List, [], ◌∷◌, ◌++◌, Option, Some, None}
use Rattle.node_words.specs.declared.geometry.Geometry.{Geometry}
use Rattle.kv_block.specs.declared.changes.Change.{Change}
use Rattle.kv_block.specs.Packing.{Pair}
use Rattle.verb_log.specs.declared.entry.Entry.{Entry}
use Rattle.verb_log.specs.declared.kind.Kind.{Kind}
use Rattle.verb_log.specs.declared.kind.Kind.TheVariants.{Commit, Replace, Remove}
use Rattle.verb_log.specs.Decoded.{Content, Full, content}
use Rattle.verb_log.specs.Tables.{Past, pair_at}
use Rattle.verb_log.specs.Kinds.{kind}

abbrev pub pair_in : Geometry → Past → Content → Option Pair
pair_in g past (Full m b) = pair_at g past b
pair_in g past _ = None

abbrev pub set_to : Option Pair → List Change
set_to (Some pair) = record { key = pair.key; value = Some pair.value } ∷ []
set_to None = []

abbrev pub gone : Option Pair → List Change
gone (Some pair) = record { key = pair.key; value = None } ∷ []
gone None = []

-- a commit and a replace set the pair of the new word's block, a remove takes away that of the old word's
abbrev pub changes_by : Geometry → Past → Entry → Option Kind → List Change
changes_by g past e (Some Commit) = set_to (pair_in g past (content e.new))
changes_by g past e (Some Replace) = set_to (pair_in g past (content e.new))
changes_by g past e (Some Remove) = gone (pair_in g past (content e.old))
changes_by g past e _ = []

abbrev pub changes : Geometry → Past → List Change
changes g [] = []
changes g (e ∷ past) = changes g past ++ changes_by g past e (kind g past e)
