use Rattle.std.proofs.Common.{arith}
use Rattle.directory.proofs.Indices.{indices_fit}
use Rattle.directory.proofs.at.At.below.Goals as goal

pub each-requires : goal.each-requires
each-requires c = (omega arith, indices_fit c.args.naming.now.birth.depth c.min.result c.args.naming.now.birth.suffix (omega arith) (omega arith))
