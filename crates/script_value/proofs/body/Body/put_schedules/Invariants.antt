use Rattle.std.proofs.Common.{◌≡◌, ◌++◌, ◌<◌, length, map, drop}
use Rattle.std.specs.List.{AllByRecursion}
use Rattle.script_value.specs.Content.{names_of}
use Rattle.map_model.specs.declared.plans.Item.{Item}
use Rattle.item_list.specs.RoomyList.{RoomyList}
use Rattle.script_value.specs.ScriptText.{schedule_words, item_client, text_of}
use Rattle.script_value.proofs.body.Body.put_schedules.Given as goal

-- the lines so far, and those that are left
abbrev pub invariant-loop-items : goal.invariant-loop-items
invariant-loop-items l =
    let rest = map (λ (items : RoomyList Item). items.items) (drop l.items-index l.items-items) in
    record {
      known : AllByRecursion (AllByRecursion (λ item. item_client item < length l.self.clients)) rest;
      same : l.out.items ++ text_of (map (schedule_words (names_of l.self)) rest) ≡ l.fn.out.items ++ text_of (map (schedule_words (names_of l.self)) l.self.schedules);
    }
