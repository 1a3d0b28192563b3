-- The terms of a client among others on a legal log, and what a log tells.
use Rattle.std.specs.Prelude.{◌≡◌, ℕ, ◌+◌, ◌<◌, List, length, reverse}
use Rattle.node_words.specs.declared.geometry.Geometry.{Geometry}
use Rattle.verb_log.specs.declared.entry.Verb.{Verb}
use Rattle.verb_log.specs.declared.entry.Verb.TheVariants.{Read}
use Rattle.kv_block.specs.declared.changes.Change.{Change}
use Rattle.verb_log.specs.Changes.{changes}
use Rattle.verb_log.specs.Tables.{Past}
use Rattle.verbs.specs.Logs.{Entries, Lengthened}
use Rattle.verbs.specs.Terms.{Terms}
use Rattle.verbs.specs.Calls.{quiet}
use Rattle.race_laws.specs.Setting.{Setting}
use Rattle.race_laws.specs.Legal.{MayFollow}
use Rattle.race_laws.specs.Named.{PublishedIn}

-- a verb reads a word of the published block at an address
abbrev pub ReadsIn : Geometry → Past → ℕ → Verb → Type 0
ReadsIn g q at verb = (words : List ℕ) × PublishedIn g q at words × ((i : ℕ) × (i < length words) × (verb ≡ Read (at + i)))

-- each entry keeps the log legal, and others lengthen it by entries of their own
abbrev pub among : Setting → ℕ → Terms
among s c = record {
  geometry = s.geometry;
  rule = MayFollow s;
  grows = Lengthened (MayFollow s) c;
  client = c;
  published = λ l at words. PublishedIn s.geometry (reverse l) at words;
}

-- its changes of the map
abbrev pub changes_of : Setting → Entries → List Change
changes_of s l = changes s.geometry (reverse l)

-- the same terms, where no entry of the client changes the map
abbrev pub quiet_among : Setting → ℕ → Terms
quiet_among s c = quiet (among s c) (changes_of s)
