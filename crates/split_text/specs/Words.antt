-- What a split reads off its numbers, and the words that it stores.
use Rattle.std.specs.Prelude.{ℕ, ◌+◌, ◌*◌, ◌/◌, ◌%◌, ◌^◌, min}
use Rattle.slot_word.specs.declared.slots.Mark.{Mark}
use Rattle.slot_word.specs.declared.slots.Slot.{Slot}
use Rattle.slot_word.specs.declared.heads.State.TheVariants.{Plain, Splitting, Filling}
use Rattle.slot_word.specs.Slots.{slot_word}
use Rattle.slot_word.specs.Heads.{head_word}
use Rattle.node_words.specs.declared.geometry.Geometry.{Geometry}
use Rattle.directory.specs.declared.naming.Naming.{Naming}
use Rattle.split_text.specs.declared.site.Site.{Site}
use Rattle.split_text.specs.declared.site.SplitJob.{SplitJob}

-- an address as a birth word has room for it: 40 bits
unfoldable pub low_address : ℕ → ℕ
low_address a = a % 2 ^ 40

-- a begun split whose numbers fit their words; those of a legal log do
unfoldable pub cut : Site → Site
cut site = record {
  table = low_address site.table;
  depth = min site.depth 15;
  child = low_address site.child;
  suffix = site.suffix % 2 ^ (min site.depth 15 + 1);
}

-- the split that has begun with a child at this address
abbrev pub site_of : SplitJob → ℕ → Site
site_of job child = record {
  table = low_address job.table;
  depth = job.depth;
  child = child;
  suffix = job.suffix % 2 ^ job.depth + 2 ^ job.depth;
}

-- the naming of its child
abbrev pub naming_of : Geometry → Site → Naming
naming_of g site = record {
  geometry = g;
  child = site.child;
  birth = record { depth = site.depth + 1; suffix = site.suffix; parent = site.table };
}

-- header words of a depth
abbrev pub plain_of : ℕ → ℕ
plain_of d = head_word (record { depth = d; state = Plain })

abbrev pub splitting_of : ℕ → ℕ
splitting_of d = head_word (record { depth = d; state = Splitting })

abbrev pub filling_of : ℕ → ℕ
filling_of d = head_word (record { depth = d; state = Filling })

-- the word of the same block with this mark
abbrev pub marked : Mark → Slot → ℕ
marked m slot = slot_word (record { mark = m; fp = slot.fp; len = slot.len; at = slot.at })

-- how many slots a table has
abbrev pub slot_count : Geometry → ℕ
slot_count g = 21 * g.groups

-- the place of the slot of this number: each 8 places are a header and 7 slots
abbrev pub place_of : ℕ → ℕ
place_of i = i + i / 7 + 1

-- how many main buckets a table has
abbrev pub main_count : Geometry → ℕ
main_count g = 2 * g.groups
