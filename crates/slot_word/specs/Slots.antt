-- Slot words: bits 63..56 the fingerprint, 55..48 the block's length, 47..46 the mark, 45..0 the block's address.
use Rattle.std.specs.Prelude.{ℕ, ◌+◌, ◌*◌, ◌/◌, ◌%◌, ◌^◌, ◌<◌, ◌≤◌, ◌==◌, Option, Some, None, if◌then◌else◌}
use Rattle.slot_word.specs.declared.slots.Mark.{Mark}
use Rattle.slot_word.specs.declared.slots.Mark.TheVariants.{Live, Pending, Copied, Moved}
use Rattle.slot_word.specs.declared.slots.Slot.{Slot}

-- the two bits of a mark
abbrev pub mark_bits : Mark → ℕ
mark_bits Live = 0
mark_bits Pending = 1
mark_bits Copied = 2
mark_bits Moved = 3

-- the mark of two bits
abbrev pub mark_of : ℕ → Mark
mark_of bits = if bits == 0 then Live else if bits == 1 then Pending else if bits == 2 then Copied else Moved

-- the fields fit the word: an address from 1 to 2^46 - 1, a fingerprint and a length of 8 bits
pub record IsSlot (slot : Slot) : Type 0 where
  pub low : 1 ≤ slot.at
  pub high : slot.at < 2 ^ 46
  pub print : slot.fp < 2 ^ 8
  pub words : slot.len < 2 ^ 8

-- the word of a slot
unfoldable pub slot_word : Slot → ℕ
slot_word slot = slot.fp * 2 ^ 56 + slot.len * 2 ^ 48 + mark_bits slot.mark * 2 ^ 46 + slot.at

-- the fields that a word has as a slot
unfoldable pub fields_of : ℕ → Slot
fields_of word = record { mark = mark_of (word / 2 ^ 46 % 4); fp = word / 2 ^ 56; len = word / 2 ^ 48 % 2 ^ 8; at = word % 2 ^ 46 }

-- the slot that a word packs; none where its 46 address bits are 0
unfoldable pub slot_of : ℕ → Option Slot
slot_of word = if word % 2 ^ 46 == 0 then None else Some (fields_of word)
