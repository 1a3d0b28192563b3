use Rattle.std.proofs.Common.{sym, ◌∙◌}
use Rattle.op_search.proofs.Ends.{table_told}
use Rattle.op_search.proofs.search.SearchOp.table.Goals as goal

pub returns-clause-ended : goal.returns-clause-ended
returns-clause-ended c = λ e h. table_told c.args.self.now.pass.task.job c.args.self.now.pass.scan c.args.self.now.pass.at e h ∙ sym c.table.ensures.table
