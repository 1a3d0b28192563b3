use Rattle.op_delete.proofs.Ends.{end_told}
use Rattle.op_delete.proofs.delete.DeleteOp.lost.Goals as goal

pub returns-clause-ended : goal.returns-clause-ended
returns-clause-ended c = λ e h. (end_told c.args.self.now.work c.args.self.now.at e c.args.self.now.fits h).lost
