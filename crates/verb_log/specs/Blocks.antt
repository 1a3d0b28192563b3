-- The words of a block, as they are read from a list of the memory's words.
use Rattle.std.specs.Prelude.{ℕ, ◌+◌, cond, nat_le, List, [], length, slice_range, Option, Some, None}
use Rattle.kv_block.specs.declared.changes.Change.{Change}
use Rattle.kv_block.specs.Packing.{Pair, unpacked}
use Rattle.verb_log.specs.declared.entry.Entry.{Entry}
use Rattle.verb_log.specs.declared.kind.Kind.{Kind}
use Rattle.verb_log.specs.declared.kind.Kind.TheVariants.{Commit, Replace, Remove}
use Rattle.verb_log.specs.Decoded.{Content, Full, content}
use Rattle.verb_log.specs.Changes.{set_to, gone}

-- the pair of the block that stands in a slot, where the words go on to the block's end
abbrev pub pair_read : List ℕ → Content → Option Pair
pair_read words (Full m b) = cond (nat_le (b.at + b.length) (length words)) (unpacked (slice_range words b.at (b.at + b.length))) None
pair_read words _ = None

-- the change that an entry on a slot makes, by its kind
abbrev pub changes_read : List ℕ → Entry → Option Kind → List Change
changes_read words e (Some Commit) = set_to (pair_read words (content e.new))
changes_read words e (Some Replace) = set_to (pair_read words (content e.new))
changes_read words e (Some Remove) = gone (pair_read words (content e.old))
changes_read words e _ = []
