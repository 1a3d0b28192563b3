use Rattle.op_update.proofs.Looking.{take-begins}
use Rattle.op_update.proofs.at.At.held.Goals as goal

pub returns-in-None-clause-rest : goal.returns-in-None-clause-rest
returns-in-None-clause-rest c = take-begins c.args.work.now c.restart.new.self c.args.work.now.replacement.kept c.in-None.is c.restart.ensures.rest c.restart.ensures.taking
