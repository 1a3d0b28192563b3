use Rattle.std.proofs.Common.{refl, arith}
use Rattle.kv_block.specs.Filled.{filled}
use Rattle.call_machine.proofs.forgotten.Forgotten.new.Goals as goal

pub invariant_of-result : goal.invariant_of-result
unfolding filled
invariant_of-result c = (omega arith, record { fits = omega arith; long = refl; rest = refl })
