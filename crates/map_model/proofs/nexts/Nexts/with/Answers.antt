use Rattle.std.proofs.Common.{length, ap, arith}
use Rattle.kv_block.specs.Filled.{length-take_filled}
use Rattle.map_model.proofs.Numbers.{IsFilled-set}
use Rattle.map_model.proofs.nexts.Nexts.with.Goals as goal

pub invariant_of-result : goal.invariant_of-result
invariant_of-result c =
    (omega arith, IsFilled-set 8 c.self.inside.len c.self.inside.numbers c.args.number c.self.invariant.1 (let v = ap length c.self.view_is in let e = length-take_filled 8 c.self.inside.len c.self.inside.numbers c.self.invariant.1 in let r = c.requires in omega arith))
