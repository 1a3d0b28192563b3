-- What a block cache keeps stands in the front as published.
use Rattle.std.specs.Prelude.{◌≡◌, ℕ, ◌<◌, List, length, take, Option, Some, None}
use Rattle.std.specs.List.{AllByRecursion}
use Rattle.verb_log.specs.declared.entry.Verb.{Verb}
use Rattle.verbs.specs.Logs.{Entries}
use Rattle.verbs.specs.Terms.{Terms, ReadsBlock}
use Rattle.block_cache.specs.declared.recent.KeptBlock.{KeptBlock}
use Rattle.block_cache.specs.declared.reading.Reading.{Reading}
use Rattle.block_cache.specs.declared.reading.Reading.TheVariants.{Idle, Serving, Taking}
use Rattle.block_cache.specs.Cache.{Cache}

-- the words of a block are those of the block that is published at its address
abbrev pub IsPublished : Terms → Entries → KeptBlock → Type 0
IsPublished t l held = t.published l held.at held.words

-- of a block that is being read: the words read are the first of those that are published at its address, and it has so many
abbrev pub UnderWay : Terms → Entries → Reading → Type 0
UnderWay t l Idle = Unit {0}
UnderWay t l (Serving next) = Unit {0}
UnderWay t l (Taking held total) = (words : List ℕ) × t.published l held.at words × (held.words ≡ take (length held.words) words) × (total ≡ length words) × (length held.words < total)

-- after this log each block that the cache keeps is published, and so is the one that it reads
pub record Keeps (t : Terms) (l : Entries) (c : Cache) : Type 0 where
  pub blocks : AllByRecursion (IsPublished t l) c.kept
  pub under_way : UnderWay t l c.reading

-- a verb with which a block is named reads a word of this block, which is published
abbrev pub ReadsIts : Terms → Entries → Option ℕ → Verb → Type 0
ReadsIts t l None verb = Unit {0}
ReadsIts t l (Some block) verb = ReadsBlock t l block verb
