use Rattle.std.proofs.Common.{◌∙◌}
use Rattle.op_update.proofs.Looking.{take-act}
use Rattle.op_update.proofs.at.At.fed.Goals as goal

pub returns-in-Taking-clause-rest : goal.returns-in-Taking-clause-rest
returns-in-Taking-clause-rest c = c.taking.ensures.rest ∙ take-act c.args.work.now c.args.at c.in-Taking.is c.requires.fits c.args.word c.feed-in-Taking.new.self c.feed-in-Taking.ensures.rest c.feed-in-Taking.ensures.kept
