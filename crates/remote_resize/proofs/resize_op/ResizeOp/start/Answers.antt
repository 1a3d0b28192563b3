-- The clauses of a split's start.
use Rattle.split_laws.proofs.Whole.{safe_as_split}
use Rattle.remote_resize.proofs.Begins.{split_of, within_as_split, waits_as_split}
use Rattle.remote_resize.proofs.resize_op.ResizeOp.start.Goals as goal

pub returns-clause-rest : goal.returns-clause-rest
returns-clause-rest c = split_of (record { geometry = c.args.geometry; client = c.args.client; table = c.args.table; depth = c.args.depth; suffix = c.args.suffix }) _ c.args.tries_left _ c.start-begin.ensures.rest c.start-begin.ensures.job

pub returns-clause-within : goal.returns-clause-within
returns-clause-within c = within_as_split (record { geometry = c.args.geometry; client = c.args.client; table = c.args.table; depth = c.args.depth; suffix = c.args.suffix }) c.args.tries_left _ (split_of (record { geometry = c.args.geometry; client = c.args.client; table = c.args.table; depth = c.args.depth; suffix = c.args.suffix }) _ c.args.tries_left _ c.start-begin.ensures.rest c.start-begin.ensures.job) c.args.geometry.few

pub returns-clause-safe : goal.returns-clause-safe
returns-clause-safe c = safe_as_split (record { geometry = c.args.geometry; client = c.args.client; table = c.args.table; depth = c.args.depth; suffix = c.args.suffix }) c.args.tries_left _ (split_of (record { geometry = c.args.geometry; client = c.args.client; table = c.args.table; depth = c.args.depth; suffix = c.args.suffix }) _ c.args.tries_left _ c.start-begin.ensures.rest c.start-begin.ensures.job)

pub returns-clause-waits : goal.returns-clause-waits
returns-clause-waits c = waits_as_split (record { geometry = c.args.geometry; client = c.args.client; table = c.args.table; depth = c.args.depth; suffix = c.args.suffix }) c.args.tries_left _ (split_of (record { geometry = c.args.geometry; client = c.args.client; table = c.args.table; depth = c.args.depth; suffix = c.args.suffix }) _ c.args.tries_left _ c.start-begin.ensures.rest c.start-begin.ensures.job)
