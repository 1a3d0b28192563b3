use Rattle.whole_calls.proofs.Fitting.{fresh_fits, stays_fitting, leaves_fitting}
use Rattle.whole_calls.proofs.laws.law_states_fit.Goals as goal

pub returns-clause-fresh : goal.returns-clause-fresh
returns-clause-fresh c = fresh_fits

pub returns-clause-longer : goal.returns-clause-longer
returns-clause-longer c = stays_fitting

pub returns-clause-after : goal.returns-clause-after
returns-clause-after c = leaves_fitting
