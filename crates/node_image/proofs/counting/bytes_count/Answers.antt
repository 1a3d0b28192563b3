use Rattle.image_audit.specs.Shape.{lists_of}
use Rattle.node_image.proofs.ImageNumbers.{bytes_counted}
use Rattle.node_image.proofs.counting.bytes_count.Goals as goal

pub returns : goal.returns
returns c = bytes_counted c.args.image.now.geometry c.args.pairs.now (lists_of c.args.image.now.nodes.items) c.entries_count.result c.words_count.result c.entries_count.ensures.count c.words_count.ensures.count
