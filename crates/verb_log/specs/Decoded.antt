-- What slot, header and birth words say, as logs speak of them.
use Rattle.std.specs.Prelude.{ℕ, cond, ◌==◌, Option, Some, None}
use Rattle.slot_word.specs.declared.slots.Mark.{Mark}
use Rattle.slot_word.specs.declared.slots.Slot.{Slot}
use Rattle.slot_word.specs.declared.heads.State.{State}
use Rattle.slot_word.specs.declared.heads.State.TheVariants.{Plain, Splitting, Filling}
use Rattle.slot_word.specs.declared.heads.Head.{Head}
use Rattle.slot_word.specs.declared.births.Birth.{Birth}
use Rattle.slot_word.specs.Slots.{slot_of}
use Rattle.slot_word.specs.Heads.{head_of}
use Rattle.slot_word.specs.Births.{birth_of}

-- the block that a slot word names, with the fingerprint and the length that the word states
pub record Body : Type 0 where
  pub print : ℕ
  pub length : ℕ
  pub at : ℕ

-- what stands in a slot: nothing, a mark and a block, or a word that is no slot word
pub data Content : Type 0 where
  Empty : Content
  Full : Mark → Body → Content
  NoSlot : Content

abbrev pub content_of : Option Slot → Content
content_of (Some slot) = Full slot.mark (record { print = slot.fp; length = slot.len; at = slot.at })
content_of None = NoSlot

-- the slot word of 0 is empty
unfoldable pub content : ℕ → Content
content w = cond (w == 0) Empty (content_of (slot_of w))

-- a depth with its state, or a word that is no header word
pub data Header : Type 0 where
  PlainAt : ℕ → Header
  SplittingAt : ℕ → Header
  FillingAt : ℕ → Header
  NoHeader : Header

abbrev pub header_with : ℕ → State → Header
header_with d Plain = PlainAt d
header_with d Splitting = SplittingAt d
header_with d Filling = FillingAt d

abbrev pub header_of : Option Head → Header
header_of (Some head) = header_with head.depth head.state
header_of None = NoHeader

unfoldable pub header : ℕ → Header
header w = header_of (head_of w)

-- the birth that a word packs, (0, 0, 0) where it packs none
abbrev pub birth_or_none : Option Birth → Birth
birth_or_none (Some birth) = birth
birth_or_none None = record { depth = 0; suffix = 0; parent = 0 }

unfoldable pub birth : ℕ → Birth
birth w = birth_or_none (birth_of w)
