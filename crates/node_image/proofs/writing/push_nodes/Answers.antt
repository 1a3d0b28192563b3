use Rattle.std.proofs.Common.{◌++◌, ◌∙◌, ap}
use Rattle.image_audit.specs.Shape.{lists_of}
use Rattle.node_image.proofs.ImageNumbers.{behind_more, node_here}
use Rattle.node_image.proofs.writing.push_nodes.Goals as goal

pub loop-k-preserved : goal.loop-k-preserved
loop-k-preserved c =
    let r = node_here c.args.nodes.now c.loop-k.k c.index-nodes-k.result c.loop-k-test.true c.index-nodes-k.is in
    behind_more (λ v. v) (lists_of c.args.nodes.now) c.loop-k.k c.index-nodes-k.result.items c.args.numbers.now.items c.loop-k.numbers.items c.extend_from_slice.new.self.items r.0 r.1 c.loop-k.invariant
    (c.in_ok-extend_from_slice.ensures.items ∙ ap (λ v. c.loop-k.numbers.items ++ v) c.deref.ensures.value)
