use Rattle.std.proofs.Common.{rules, ◌≡◌, ◌<◌, ◌≤◌, length, sym, ◌∙◌, ap, subst, arith}
use Rattle.std.specs.Prelude.{◌^◌}
use Rattle.node_words.specs.declared.geometry.Geometry.{Geometry}
use Rattle.image_laws.specs.Laws.{words_after}
use Rattle.image_audit.specs.Shape.{lists_of}
use Rattle.node_image.specs.Parts.{part_of}
use Rattle.node_image.proofs.NodeParts.{parts_more, part_few, parts_whole, lists_pushed}
use Rattle.node_image.proofs.replaying.nodes_after.Goals as goal

pub loop-node-preserved : goal.loop-node-preserved
loop-node-preserved c =
    let low : c.loop-node.node < c.args.log.now.geometry.nodes = subst (λ (g : Geometry). c.loop-node.node < g.nodes) c.geometry.ensures.value c.loop-node-test.true in
    let a = c.len.ensures in
    let size : c.len.result ≡ length c.in_ok-words.words.items = search rules in
    let same : c.len.result ≡ length (part_of c.args.log.now.geometry (words_after c.args.log.now.geometry c.args.log.now.entries) c.loop-node.node) = size ∙ ap length c.in_ok-words.ensures in
    let few : c.len.result ≤ 2 ^ 24 = subst (λ n. n ≤ 2 ^ 24) (sym same) (part_few c.args.log.now.geometry (words_after c.args.log.now.geometry c.args.log.now.entries) c.requires c.loop-node.node low) in
    parts_more c.args.log.now.geometry (words_after c.args.log.now.geometry c.args.log.now.entries) c.requires (lists_of c.loop-node.nodes.items) (lists_of c.push.new.self.items) c.loop-node.node c.loop-node.longest c.greater-longest.result low c.loop-node.invariant
    (lists_pushed c.loop-node.nodes.items c.push.new.self.items c.in_ok-words.words _ c.in_ok-push.ensures.items c.in_ok-words.ensures)
    c.greater-longest.ensures.first (subst (λ n. n ≤ c.greater-longest.result) same c.greater-longest.ensures.second) (c.greater-longest.ensures.most c.loop-node.invariant.low few)

pub returns-clause-fits : goal.returns-clause-fits
returns-clause-fits c =
    let d = c.loop-node-test.false in
    let e = c.loop-node.auto.node-end in
    let all : c.loop-node.node ≡ c.args.log.now.geometry.nodes = subst (λ (g : Geometry). c.loop-node.node ≡ g.nodes) c.geometry.ensures.value (omega arith) in
    (parts_whole c.args.log.now.geometry (words_after c.args.log.now.geometry c.args.log.now.entries) c.requires (lists_of c.loop-node.nodes.items) c.loop-node.node c.loop-node.longest all c.loop-node.invariant).1
