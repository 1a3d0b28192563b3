-- What stands in a slot, as the program reads it and as logs speak of it.
use Rattle.std.specs.Prelude.{◌<◌, ◌^◌}
use Rattle.slot_word.specs.declared.slots.Slot.{Slot}
use Rattle.verb_log.specs.declared.kinds.Content.{Content as Read}
use Rattle.verb_log.specs.declared.kinds.Content.TheVariants.{Empty as ReadEmpty, Full as ReadFull, NoSlot as ReadNoSlot}
use Rattle.verb_log.specs.Decoded.{Body, Content, Empty, Full, NoSlot}

-- the block that a slot names
abbrev pub body_of : Slot → Body
body_of slot = record { print = slot.fp; length = slot.len; at = slot.at }

abbrev pub shown : Read → Content
shown ReadEmpty = Empty
shown (ReadFull slot) = Full slot.mark (body_of slot)
shown ReadNoSlot = NoSlot

-- the address of a slot's block has 46 bits
abbrev pub IsRead : Read → Type 0
IsRead ReadEmpty = Unit {0}
IsRead (ReadFull slot) = slot.at < 2 ^ 46
IsRead ReadNoSlot = Unit {0}
