use Rattle.node_image.specs.Numbers.{entry_of}
use Rattle.node_image.proofs.ImageNumbers.{behind_more, keys_more}
use Rattle.node_image.proofs.writing.push_entries.Goals as goal

pub loop-i-preserved : goal.loop-i-preserved
loop-i-preserved c = record {
  numbers = behind_more entry_of c.args.pairs.now c.loop-i.i c.index-pairs-i.result c.args.numbers.now.items c.loop-i.numbers.items c.push_entry.new.numbers.items c.loop-i-test.true c.index-pairs-i.is c.loop-i.invariant.numbers c.in_ok-push_entry.ensures.numbers;
  keys = keys_more c.args.pairs.now c.loop-i.i c.index-pairs-i.result c.loop-i-test.true c.index-pairs-i.is c.loop-i.invariant.keys c.in_ok-push_entry.ensures.key;
}
