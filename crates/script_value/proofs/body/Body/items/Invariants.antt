use Rattle.std.proofs.Common.{◌≡◌, ◌++◌, drop, map, List}
use Rattle.std.specs.List.{flat_map}
use Rattle.item_list.specs.RoomyList.{RoomyList}
use Rattle.map_model.specs.declared.plans.Item.{Item}
use Rattle.script_value.proofs.body.Body.items.Given as goal

-- the items so far, and those that are left
abbrev pub invariant-loop-line : goal.invariant-loop-line
invariant-loop-line l =
    l.items.items ++ flat_map (λ (line : List Item). line) (map (λ (items : RoomyList Item). items.items) (drop l.line-index l.line-items)) ≡ flat_map (λ (line : List Item). line) l.self.schedules
