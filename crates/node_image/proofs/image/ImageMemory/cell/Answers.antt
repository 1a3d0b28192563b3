use Rattle.std.proofs.Common.{rules, ◌/◌, ◌%◌, ◌<◌, ◌≤◌, arith, inl, inr, length}
use Rattle.image_audit.proofs.Images.{cell_none, cell_out, cell_in, cell_few}
use Rattle.node_image.proofs.image.ImageMemory.cell.Goals as goal

pub returns-then-node-len-clause-none : goal.returns-then-node-len-clause-none
returns-then-node-len-clause-none c = cell_none c.args.self.now.geometry c.args.self.now.nodes.items c.args.at c.node_size-size.result c.node_size-size.ensures.size c.args.self.now.longest c.args.self.now.fits (let a = c.len.ensures in let b = c.if-node-len.true in let high : length c.args.self.now.nodes.items ≤ c.args.at / c.node_size-size.result = search rules in high)

pub returns-then-offset-from-clause-none : goal.returns-then-offset-from-clause-none
returns-then-offset-from-clause-none c = cell_out c.args.self.now.geometry c.args.self.now.nodes.items c.args.at c.node_size-size.result c.node_size-size.ensures.size c.args.self.now.longest c.args.self.now.fits c.index-words.result.now (let a = c.len.ensures in let b = c.if-node-len.false in let low : c.args.at / c.node_size-size.result < length c.args.self.now.nodes.items = search rules in low) c.index-words.ensures c.taken_from-from.result c.taken_from-from.ensures.first c.taken_from-from.ensures.others (inl c.if-offset-from.true)

pub returns-then-offset-len-clause-none : goal.returns-then-offset-len-clause-none
returns-then-offset-len-clause-none c = cell_out c.args.self.now.geometry c.args.self.now.nodes.items c.args.at c.node_size-size.result c.node_size-size.ensures.size c.args.self.now.longest c.args.self.now.fits c.index-words.result.now (let a = c.len.ensures in let b = c.if-node-len.false in let low : c.args.at / c.node_size-size.result < length c.args.self.now.nodes.items = search rules in low) c.index-words.ensures c.taken_from-from.result c.taken_from-from.ensures.first c.taken_from-from.ensures.others (inr (let a = c.len-2.ensures in let b = c.if-offset-len.true in let high : length c.index-words.result.now.items ≤ c.args.at % c.node_size-size.result = search rules in high))

pub cell_at-requires-clause-offset : goal.cell_at-requires-clause-offset
cell_at-requires-clause-offset c = let r = cell_few c.args.self.now.geometry c.args.self.now.nodes.items c.args.at c.node_size-size.result c.node_size-size.ensures.size c.args.self.now.longest c.args.self.now.fits c.index-words.result.now (let a = c.len.ensures in let b = c.if-node-len.false in let low : c.args.at / c.node_size-size.result < length c.args.self.now.nodes.items = search rules in low) c.index-words.ensures (let a = c.len-2.ensures in let b = c.if-offset-len.false in let low : c.args.at % c.node_size-size.result < length c.index-words.result.now.items = search rules in low) in let z = c.args.self.now.small in let y = r.0 in omega arith

pub returns-clause-some : goal.returns-clause-some
returns-clause-some c = cell_in c.args.self.now.geometry c.args.self.now.nodes.items c.args.at c.node_size-size.result c.node_size-size.ensures.size c.args.self.now.longest c.args.self.now.fits c.index-words.result.now (let a = c.len.ensures in let b = c.if-node-len.false in let low : c.args.at / c.node_size-size.result < length c.args.self.now.nodes.items = search rules in low) c.index-words.ensures c.taken_from-from.result c.taken_from-from.ensures.first c.taken_from-from.ensures.others c.if-offset-from.false (let a = c.len-2.ensures in let b = c.if-offset-len.false in let low : c.args.at % c.node_size-size.result < length c.index-words.result.now.items = search rules in low) c.cell_at.result c.cell_at.ensures
