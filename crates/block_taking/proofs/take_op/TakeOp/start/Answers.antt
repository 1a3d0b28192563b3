use Rattle.std.proofs.Common.{subst, sym}
use Rattle.verbs.specs.Programs.{Within}
use Rattle.block_taking.specs.Bound.{taking_verbs}
use Rattle.block_taking.specs.declared.taking.Taking.{Taking}
use Rattle.block_taking.proofs.Bounds.{taking-within}
use Rattle.block_taking.proofs.Whole.{safe_as_taking, same_taking}
use Rattle.block_taking.proofs.take_op.TakeOp.start.Goals as goal

pub returns-clause-within : goal.returns-clause-within
returns-clause-within c =
    let t : Taking = record { geometry = c.args.geometry; client = c.args.client; block = c.args.block } in
    subst (Within (taking_verbs t c.args.left)) (sym (same_taking t _ c.args.area _ c.args.left _ c.restart.ensures.rest c.ready-op.ensures.taking c.ready-op.ensures.area))
    (taking-within t c.args.area c.args.left)

pub returns-clause-safe : goal.returns-clause-safe
returns-clause-safe c =
    let t : Taking = record { geometry = c.args.geometry; client = c.args.client; block = c.args.block } in
    safe_as_taking t c.args.area c.args.left _ (same_taking t _ c.args.area _ c.args.left _ c.restart.ensures.rest c.ready-op.ensures.taking c.ready-op.ensures.area)
