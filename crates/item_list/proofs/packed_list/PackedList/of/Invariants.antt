use Rattle.std.proofs.Common.{◌≡◌, take}
use Rattle.item_list.proofs.packed_list.PackedList.of.Given as goal

-- the items so far
abbrev pub invariant-loop-item : goal.invariant-loop-item
invariant-loop-item g l = l.list.items ≡ take l.item-index l.items
