-- What is known of each place where the judging of a place stands.
use Rattle.std.specs.Prelude.{◌+◌, ◌≤◌, ◌<◌, ◌^◌, length}
use Rattle.std.proofs.Props.{props}
use Rattle.slot_word.specs.declared.slots.Slot.{Slot}
use Rattle.remote_resize.specs.declared.mover.Mover.{Mover}
use Rattle.remote_resize.specs.declared.move_at.MoveAt.{MoveAt}
use Rattle.remote_resize.specs.declared.move_at.MoveAt.TheVariants.{Read, Block, Ask, Uncopy, UncopyFirst, Drop, Copy, Reread, Flip, Settle, Done, Moved, Spent}

-- a slot that can be packed
abbrev pub IsFull : Slot → Type 0
IsFull slot = (1 ≤ slot.at) × (slot.at < 2 ^ 46)

abbrev pub MoveFits : Mover → MoveAt → Type 0
MoveFits m Read = 1 ≤ m.left
MoveFits m Block = IsFull m.slot × (length m.words + m.more + 1 ≤ 137) × (m.next + m.more + 1 < 2 ^ 50)
MoveFits m Ask = IsFull m.slot
MoveFits m Uncopy = Unit {0}
MoveFits m UncopyFirst = Unit {0}
MoveFits m Drop = Unit {0}
MoveFits m Copy = IsFull m.slot
MoveFits m Reread = Unit {0}
MoveFits m Flip = IsFull m.slot
MoveFits m Settle = IsFull m.slot
MoveFits m Done = Unit {0}
MoveFits m Moved = IsFull m.slot
MoveFits m Spent = Unit {0}

pub MoveFits-prop : (m : Mover) (at : MoveAt) → IsProp (MoveFits m at)
MoveFits-prop m Read = Prim.hlevel props
MoveFits-prop m Block = Prim.hlevel props
MoveFits-prop m Ask = Prim.hlevel props
MoveFits-prop m Uncopy = Prim.hlevel props
MoveFits-prop m UncopyFirst = Prim.hlevel props
MoveFits-prop m Drop = Prim.hlevel props
MoveFits-prop m Copy = Prim.hlevel props
MoveFits-prop m Reread = Prim.hlevel props
MoveFits-prop m Flip = Prim.hlevel props
MoveFits-prop m Settle = Prim.hlevel props
MoveFits-prop m Done = Prim.hlevel props
MoveFits-prop m Moved = Prim.hlevel props
MoveFits-prop m Spent = Prim.hlevel props
