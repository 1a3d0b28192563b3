use Rattle.std.proofs.Common.{arith, refl}
use Rattle.race_laws.proofs.Regions.{base_from}
use Rattle.node_image.proofs.NodeLists.{node_front, counted}
use Rattle.node_image.proofs.nodes.count_words.Goals as goal

pub returns-then-numbers-eq0-clause-none : goal.returns-then-numbers-eq0-clause-none
returns-then-numbers-eq0-clause-none c = λ v rest h e. let f = (node_front c.args.geometry.now c.args.node c.args.numbers.now v rest h e).some in let t = c.if-numbers-eq0.true in omega arith

pub returns-then-next-start-clause-none : goal.returns-then-next-start-clause-none
returns-then-next-start-clause-none c = λ v rest h e. let f = (node_front c.args.geometry.now c.args.node c.args.numbers.now v rest h e).to in let t = c.if-next-start.true in let a = c.node_start-start.ensures.start in let b = c.node_length.ensures.size in omega arith

pub overflow_sub-count : goal.overflow_sub-count
overflow_sub-count c = let a = c.node_start-start.ensures.start in let b = base_from c.args.geometry.now c.args.node in let d = c.taken_start.ensures in let f = c.if-next-taken_start.false in omega arith

pub returns-then-count-numbers-clause-none : goal.returns-then-count-numbers-clause-none
returns-then-count-numbers-clause-none c = λ v rest h e. let f = node_front c.args.geometry.now c.args.node c.args.numbers.now v rest h e in let n = f.next in let l = f.long in let a = c.node_start-start.ensures.start in let t = c.if-count-numbers.true in omega arith

pub returns-clause-some : goal.returns-clause-some
returns-clause-some c =
    let a = c.if-numbers-eq0.false in
    let size = c.node_length.ensures.size in
    let low = c.node_length.ensures.low in
    let high = c.if-next-start.false in
    (counted c.args.geometry.now c.args.node c.args.numbers.now _ c.node_start-start.result c.taken_start.result c.node_length.result (omega arith) refl c.node_start-start.ensures.start c.taken_start.ensures size c.if-next-taken_start.false high c.if-count-numbers.false, c.if-count-numbers.false, omega arith)
