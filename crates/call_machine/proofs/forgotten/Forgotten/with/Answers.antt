use Rattle.std.proofs.Common.{length, ap, arith}
use Rattle.kv_block.specs.Filled.{length-take_filled}
use Rattle.map_model.proofs.Numbers.{IsFilled-set}
use Rattle.call_machine.proofs.forgotten.Forgotten.with.Goals as goal

pub invariant_of-result : goal.invariant_of-result
invariant_of-result c =
    let v = ap length c.self.view_is in
    let e = length-take_filled 17 c.self.inside.len c.self.inside.tables c.self.invariant.1 in
    let r = c.requires in
    (omega arith, IsFilled-set 17 c.self.inside.len c.self.inside.tables c.args.table c.self.invariant.1 (omega arith))
