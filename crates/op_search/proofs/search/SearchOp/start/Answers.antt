use Rattle.std.proofs.Common.{ap}
use Rattle.verbs.specs.Programs.{mapped}
use Rattle.op_search.specs.Text.{found}
use Rattle.op_search.proofs.Whole.{safe_as_search, within_as_search, waits_as_search}
use Rattle.op_search.proofs.search.SearchOp.start.Goals as goal

pub returns-clause-rest : goal.returns-clause-rest
returns-clause-rest c = λ entry e. ap (mapped found) e

pub returns-clause-within : goal.returns-clause-within
returns-clause-within c = within_as_search c.args.pass.task.job c.requires.begun.0 _ (ap (mapped found) c.requires.begun.1)

pub returns-clause-waits : goal.returns-clause-waits
returns-clause-waits c = waits_as_search c.args.pass.task.job c.requires.begun.0 _ (ap (mapped found) c.requires.begun.1)

pub returns-clause-safe : goal.returns-clause-safe
returns-clause-safe c = λ entry e. safe_as_search c.args.pass.task.job c.requires.look entry _ (ap (mapped found) e)
