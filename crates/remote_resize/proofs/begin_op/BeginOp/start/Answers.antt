-- The clauses of the start of a first half.
use Rattle.std.proofs.Common.{ap}
use Rattle.split_text.specs.Begin.{begin}
use Rattle.begin_laws.proofs.Whole.{safe_as_begin}
use Rattle.remote_resize.proofs.Begins.{within_as_begin}
use Rattle.remote_resize.proofs.begin_op.BeginOp.start.Goals as goal

pub returns-clause-within : goal.returns-clause-within
returns-clause-within c = within_as_begin (record { geometry = c.args.geometry; client = c.args.client; table = c.args.table; depth = c.args.depth; suffix = c.args.suffix }) c.args.tries_left _ (ap (begin (record { geometry = c.args.geometry; client = c.args.client; table = c.args.table; depth = c.args.depth; suffix = c.args.suffix })) c.new.ensures.left) c.args.geometry.few

pub returns-clause-safe : goal.returns-clause-safe
returns-clause-safe c = safe_as_begin (record { geometry = c.args.geometry; client = c.args.client; table = c.args.table; depth = c.args.depth; suffix = c.args.suffix }) c.args.tries_left _ (ap (begin (record { geometry = c.args.geometry; client = c.args.client; table = c.args.table; depth = c.args.depth; suffix = c.args.suffix })) c.new.ensures.left)
