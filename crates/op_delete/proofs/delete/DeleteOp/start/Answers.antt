use Rattle.op_delete.proofs.Whole.{safe_as_delete, within_as_delete}
use Rattle.op_delete.proofs.delete.DeleteOp.start.Goals as goal

pub returns-clause-within : goal.returns-clause-within
returns-clause-within c = within_as_delete c.args.geometry c.args.key.now c.args.hash c.args.tries_left c.requires c.args.entry _ c.begin-at.ensures.rest

pub returns-clause-safe : goal.returns-clause-safe
returns-clause-safe c = safe_as_delete c.args.geometry c.args.key.now c.args.hash c.args.tries_left c.requires c.args.entry _ c.begin-at.ensures.rest
