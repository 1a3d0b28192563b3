use Rattle.std.proofs.Common.{refl, arith}
use Rattle.kv_block.specs.Filled.{filled}
use Rattle.kv_block.proofs.block.begun.Goals as goal

pub returns-clause-filled : goal.returns-clause-filled
unfolding filled
returns-clause-filled c = record { fits = omega arith; long = refl; rest = refl }
