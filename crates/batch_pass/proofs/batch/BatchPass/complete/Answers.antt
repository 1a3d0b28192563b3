use Rattle.std.proofs.Common.{◌∙◌, sym}
use Rattle.batch_pass.proofs.Counted.{number-left, number-open, done-rest, filled-rest}
use Rattle.batch_pass.proofs.batch.BatchPass.complete.Goals as goal

pub fill-requires-clause-some : goal.fill-requires-clause-some
fill-requires-clause-some c = let p = c.args.self.now in number-left p.task.job p.scan p.reads p.at c.args.i p.some p.wait c.requires

pub fill-requires-clause-there : goal.fill-requires-clause-there
fill-requires-clause-there c = let p = c.args.self.now in number-open p.task.job p.scan p.reads p.at c.args.i p.some p.wait c.requires

pub returns-then-self-eq0 : goal.returns-then-self-eq0
returns-then-self-eq0 c =
    let p = c.args.self.now in
    let q = c.fill.new.self in
    c.arrived-self.ensures.rest
    ∙ sym (done-rest p.task.job p.scan q p.at (c.fill.ensures.wait _ p.wait) c.if-self-eq0.true)
    ∙ filled-rest p.task.job p.scan p.reads q p.at c.args.i c.args.word p.some p.wait c.requires c.fill.ensures.rest

pub returns-else-self-eq0 : goal.returns-else-self-eq0
returns-else-self-eq0 c =
    let p = c.args.self.now in
    filled-rest p.task.job p.scan p.reads c.fill.new.self p.at c.args.i c.args.word p.some p.wait c.requires c.fill.ensures.rest
