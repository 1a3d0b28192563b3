use Rattle.std.proofs.Common.{◌<◌, length, arith}
use Rattle.std.specs.List.{AllByRecursion}
use Rattle.item_list.specs.RoomyList.{RoomyList}
use Rattle.map_model.specs.declared.plans.Item.{Item}
use Rattle.script_value.specs.ScriptText.{item_client}
use Rattle.script_value.proofs.Joined.{first_has}
use Rattle.script_value.proofs.body.Body.put_schedules.Goals as goal

pub put_schedule_line-requires : goal.put_schedule_line-requires
put_schedule_line-requires c =
    first_has (AllByRecursion (λ (item : Item). item_client item < length c.args.self.now.clients)) (λ (items : RoomyList Item). items.items) c.schedules-items-items.result.now c.loop-items.items-index c.items-item.result
    (omega arith) c.items-item.is c.loop-items.invariant.known
