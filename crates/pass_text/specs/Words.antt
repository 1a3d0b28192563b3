-- What a pass reads off the words. Each reading is total: of a word that no legal log has there it is a plain one.
use Rattle.std.specs.Prelude.{ℕ, ◌+◌, ◌%◌, ◌^◌, Bool, true, false, ◌==◌, nat_lt, nat_le, ◌&&◌, min, if◌then◌else◌, Option, Some, None, length, slice_index, unwrap_or}
use Rattle.slot_word.specs.declared.slots.Mark.TheVariants.{Moved}
use Rattle.slot_word.specs.declared.slots.Slot.{Slot}
use Rattle.slot_word.specs.declared.heads.Head.{Head}
use Rattle.slot_word.specs.declared.heads.State.{State}
use Rattle.slot_word.specs.declared.heads.State.TheVariants.{Plain, Splitting, Filling}
use Rattle.slot_word.specs.Heads.{head_of}
use Rattle.slot_word.specs.Slots.{slot_word}
use Rattle.node_words.specs.Addresses.{directory_at, slot_at, bucket_header_at, first_free, table_words}
use Rattle.bucket_group.specs.Buckets.{candidates, first_bucket, fingerprint_of}
use Rattle.bucket_group.specs.ExitLevel.{exit_level}
use Rattle.pass_text.specs.declared.job.Job.{Job}
use Rattle.pass_text.specs.declared.job.PassMode.{PassMode}
use Rattle.pass_text.specs.declared.job.PassMode.TheVariants.{Look, Sweep, Walk}

-- the address that a directory word or a child word names: its lowest 46 bits
unfoldable pub address_of : ℕ → ℕ
address_of w = w % 2 ^ 46

-- the header that a word packs, (0, plain) where it packs none
unfoldable pub head_in : ℕ → Head
head_in w = unwrap_or (head_of w) (record { depth = 0; state = Plain })

abbrev pub is_filling : State → Bool
is_filling Plain = false
is_filling Splitting = false
is_filling Filling = true

-- the directory word of the hash at a global depth; none is deeper than the greatest depth
unfoldable pub directory_word : Job → ℕ → ℕ
directory_word j depth = directory_at (j.hash % 2 ^ min depth j.geometry.max_depth)

-- a first table, by its address
unfoldable pub is_first : Job → ℕ → Bool
is_first j table = nat_lt table (first_free j.geometry)

-- the address of candidate i in a table
unfoldable pub candidate_at : Job → ℕ → ℕ → ℕ
candidate_at j table i = slot_at table (slice_index (candidates j.geometry.groups j.hash) i)

-- the address of the key's header in a table: the header of the key's first main bucket
unfoldable pub key_header_at : Job → ℕ → ℕ
key_header_at j table = bucket_header_at table (first_bucket j.geometry.groups j.hash)

-- how many of n candidates are read in a table: a walk reads none
abbrev pub count_in : PassMode → ℕ → ℕ
count_in Walk n = 0
count_in _ n = n

-- how many candidates are read in a table
unfoldable pub count : Job → ℕ
count j = count_in j.mode (length (candidates j.geometry.groups j.hash))

abbrev pub own_in : PassMode → ℕ → Bool
own_in (Sweep own left) at = at == own
own_in _ at = false

-- the slot with the call's own pending word, which a sweep leaves out
unfoldable pub is_own : Job → ℕ → Bool
is_own j at = own_in j.mode at

abbrev pub own_table_in : PassMode → ℕ → ℕ → Bool
own_table_in (Sweep own left) table words = nat_le table own && nat_lt own (table + words)
own_table_in _ table words = false

-- the table that has it
unfoldable pub has_own : Job → ℕ → Bool
has_own j table = own_table_in j.mode table (table_words j.geometry)

abbrev pub is_sweep : PassMode → Bool
is_sweep Look = false
is_sweep (Sweep own left) = true
is_sweep Walk = false

-- how many swaps may be lost
abbrev pub left_in : PassMode → ℕ
left_in Look = 0
left_in (Sweep own left) = left
left_in Walk = 0

-- the slot word has the key's fingerprint, and its block no more words than a block may have
unfoldable pub concerns : Job → Slot → Bool
concerns j slot = (slot.fp == fingerprint_of j.hash) && nat_le slot.len 137

-- the moved word of the same block
unfoldable pub moved_form : Slot → ℕ
moved_form slot = slot_word (record { mark = Moved; fp = slot.fp; len = slot.len; at = slot.at })

-- by a header of this state and depth a key with this exit level is leaving (the table splits at it) or has left (the
-- depth is above it)
abbrev pub is_gone : State → ℕ → ℕ → Bool
is_gone Plain depth level = nat_lt level depth
is_gone Splitting depth level = nat_le level depth
is_gone Filling depth level = nat_lt level depth

abbrev pub level_if_gone : Head → Option ℕ → Option ℕ
level_if_gone head None = None
level_if_gone head (Some level) = if is_gone head.state head.depth level then Some level else None

-- the level at which the key is leaving or has left a table of this birth depth, by this header; none where it stays
unfoldable pub level_left : ℕ → ℕ → Head → Option ℕ
level_left hash birth_depth head = level_if_gone head (exit_level hash birth_depth)
