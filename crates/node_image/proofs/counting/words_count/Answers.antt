use Rattle.std.proofs.Common.{rules, ◌≡◌, ◌<◌, length}
use Rattle.image_audit.specs.Shape.{lists_of}
use Rattle.node_image.proofs.ImageNumbers.{count_more, node_here, node_few}
use Rattle.node_image.proofs.counting.words_count.Goals as goal

pub loop-k-preserved : goal.loop-k-preserved
loop-k-preserved c =
    let a = c.loop-k-test.true in
    let b = c.len-k-end.ensures in
    let d = c.len.ensures in
    let low : c.loop-k.k < length c.args.image.now.nodes.items = search rules in
    let size : c.len.result ≡ length c.index.result.now.items = search rules in
    let r = node_here c.args.image.now.nodes.items c.loop-k.k c.index.result.now low c.index.ensures in
    record {
      count = count_more (λ v. v) (lists_of c.args.image.now.nodes.items) c.loop-k.k c.loop-k.count c.len.result c.index.result.now.items r.0 r.1 c.loop-k.invariant.count size;
      most = node_few c.args.image.now.geometry c.args.image.now.nodes.items c.args.image.now.longest c.loop-k.k c.len.result c.loop-k.count c.index.result.now c.args.image.now.fits c.args.image.now.small low c.index.ensures size c.loop-k.invariant.most;
    }
