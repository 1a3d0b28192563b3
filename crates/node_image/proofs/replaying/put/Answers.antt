use Rattle.node_image.proofs.WordRuns.{put_low, put_high, put_among}
use Rattle.node_image.proofs.replaying.put.Goals as goal

pub returns-then-entry-start : goal.returns-then-entry-start
returns-then-entry-start c = λ w e. put_low w c.args.start c.args.entry.now.at c.args.entry.now.new c.args.words.now c.if-entry-start.true e

pub returns-then-offset-words : goal.returns-then-offset-words
returns-then-offset-words c = λ w e. put_high w c.args.start c.args.entry.now.at c.args.entry.now.new c.args.words.now c.if-entry-start.false c.if-offset-words.true e

pub returns : goal.returns
returns c = λ w e. put_among w c.args.start c.args.entry.now.at c.args.entry.now.new c.args.words.now c.if-entry-start.false c.if-offset-words.false e
