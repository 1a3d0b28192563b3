use Rattle.std.proofs.Common.{rules, ◌/◌, ◌%◌, ◌<◌, ◌≤◌, length}
use Rattle.image_audit.proofs.Images.{read_none, read_short, read_some}
use Rattle.node_image.proofs.image.ImageMemory.word.Goals as goal

pub returns-then-node-len : goal.returns-then-node-len
returns-then-node-len c = read_none c.args.self.now.geometry c.args.self.now.nodes.items c.args.at c.node_size-size.result c.node_size-size.ensures.size c.opening_word.result (let a = c.len.ensures in let b = c.if-node-len.true in let high : length c.args.self.now.nodes.items ≤ c.args.at / c.node_size-size.result = search rules in high) c.opening_word.ensures

pub returns-then-offset-len : goal.returns-then-offset-len
returns-then-offset-len c = read_short c.args.self.now.geometry c.args.self.now.nodes.items c.args.at c.node_size-size.result c.node_size-size.ensures.size c.index-words.result.now c.opening_word-then-offset-len.result (let a = c.len.ensures in let b = c.if-node-len.false in let low : c.args.at / c.node_size-size.result < length c.args.self.now.nodes.items = search rules in low) c.index-words.ensures (let a = c.len-2.ensures in let b = c.if-offset-len.true in let high : length c.index-words.result.now.items ≤ c.args.at % c.node_size-size.result = search rules in high) c.opening_word-then-offset-len.ensures

pub returns : goal.returns
returns c = read_some c.args.self.now.geometry c.args.self.now.nodes.items c.args.at c.node_size-size.result c.node_size-size.ensures.size c.index-words.result.now c.index.result.now (let a = c.len.ensures in let b = c.if-node-len.false in let low : c.args.at / c.node_size-size.result < length c.args.self.now.nodes.items = search rules in low) c.index-words.ensures (let a = c.len-2.ensures in let b = c.if-offset-len.false in let low : c.args.at % c.node_size-size.result < length c.index-words.result.now.items = search rules in low) c.index.ensures
