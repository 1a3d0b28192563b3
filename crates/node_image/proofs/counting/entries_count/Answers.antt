use Rattle.std.proofs.Common.{arith}
use Rattle.node_image.specs.Numbers.{entry_of}
use Rattle.node_image.proofs.ImageNumbers.{count_more, entry_length_is}
use Rattle.node_image.proofs.counting.entries_count.Goals as goal

pub loop-i-preserved : goal.loop-i-preserved
loop-i-preserved c = record {
  count = count_more entry_of c.args.pairs.now c.loop-i.i c.loop-i.count c.entry_count-count.result c.index-pairs-i.result c.loop-i-test.true c.index-pairs-i.is c.loop-i.invariant.count (entry_length_is c.index-pairs-i.result.0 c.index-pairs-i.result.1 c.entry_count-count.result c.entry_count-count.ensures.count);
  most = (let a = c.loop-i.invariant.most in let b = c.entry_count-count.ensures.most in omega arith);
}
