use Rattle.call_bounds.proofs.Splits.{splits_cost, resumes_cost}
use Rattle.call_bounds.proofs.laws.law_splits_cost.Goals as goal

pub returns-clause-whole : goal.returns-clause-whole
returns-clause-whole c = splits_cost

pub returns-clause-rest : goal.returns-clause-rest
returns-clause-rest c = resumes_cost
