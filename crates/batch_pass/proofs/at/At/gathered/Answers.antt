use Rattle.std.proofs.Common.{◌∙◌}
use Rattle.batch_pass.specs.Seen.{seen}
use Rattle.batch_pass.proofs.Onward.{gathered-all}
use Rattle.batch_pass.proofs.at.At.gathered.Goals as goal

pub returns-clause-rest : goal.returns-clause-rest
returns-clause-rest c =
    let s = c.args.scan.now in
    let g = c.gather.new.self in
    c.judge.ensures.rest ∙ gathered-all c.args.task.now.job s.table g.index g.follow s.follow g.slots c.args.reads.now.words (seen g) (seen s) c.gather.ensures.slots c.gather.ensures.index c.gather.ensures.follow c.gather.ensures.seen
