use Rattle.std.proofs.Common.{◌≤◌, length, take, drop, arith, ap, ◌∙◌, subst}
use Rattle.image_audit.specs.Shape.{IsNode, lists_of}
use Rattle.node_image.proofs.ListedKeys.{rest_is}
use Rattle.node_image.proofs.NodeLists.{node_there, nodes_more, nothing_behind}
use Rattle.node_image.proofs.nodes.read_nodes.Goals as goal

pub returns-in_default-clause-none : goal.returns-in_default-clause-none
returns-in_default-clause-none c = λ nodes h e. node_there c.args.geometry.now c.args.numbers.now (lists_of c.loop-node.nodes.items) c.loop-node.node c.loop-node.at c.loop-node.longest c.loop-node.invariant nodes h e c.loop-node-test.true (λ v rest k q. c.in_default.ensures.none v rest k (rest_is c.args.numbers.now c.loop-node.at ∙ q))

pub loop-node-preserved : goal.loop-node-preserved
loop-node-preserved c =
    let r = rest_is c.args.numbers.now c.loop-node.at in
    nodes_more c.args.geometry.now c.args.numbers.now c.loop-node.nodes.items c.push.new.self.items c.in_ok-words.words c.loop-node.node c.loop-node.at c.loop-node.longest c.in-Some.count c.greater-longest.result c.loop-node.invariant (subst (λ v. IsNode c.args.geometry.now c.loop-node.node (take c.in-Some.count v)) r c.in-Some.ensures.some.0) (subst (λ v. c.in-Some.count ≤ length v) r c.in-Some.ensures.some.1) c.in-Some.ensures.some.2 (c.in_ok-words.ensures ∙ ap (λ n. take n (drop c.loop-node.at c.args.numbers.now)) (omega arith)) c.in_ok-push.ensures.items c.greater-longest.ensures.first c.greater-longest.ensures.second (c.greater-longest.ensures.most c.loop-node.invariant.small c.in-Some.ensures.some.2)

pub returns-then-at-numbers-clause-none : goal.returns-then-at-numbers-clause-none
returns-then-at-numbers-clause-none c = λ nodes h e. nothing_behind c.args.geometry.now c.args.numbers.now (lists_of c.loop-node.nodes.items) c.loop-node.node c.loop-node.at c.loop-node.longest c.loop-node.invariant nodes h e (let a = c.loop-node-test.false in let b = c.loop-node.auto.node-end in omega arith) c.if-at-numbers.true
