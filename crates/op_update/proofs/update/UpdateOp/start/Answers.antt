use Rattle.kv_block.specs.Packing.{Pair}
use Rattle.op_update.proofs.Whole.{safe_as_update, within_as_update}
use Rattle.op_update.proofs.update.UpdateOp.start.Goals as goal

pub returns-clause-within : goal.returns-clause-within
returns-clause-within c =
    let pair : Pair = record { key = c.args.key.now; value = c.args.value.now } in
    within_as_update c.args.geometry c.args.client pair c.args.hash c.args.tries_left c.requires c.args.area c.args.entry _ c.begin-at.ensures.rest

pub returns-clause-safe : goal.returns-clause-safe
returns-clause-safe c =
    let pair : Pair = record { key = c.args.key.now; value = c.args.value.now } in
    safe_as_update c.args.geometry c.args.client pair c.begin-at.ensures.pair c.args.hash c.args.tries_left c.requires c.args.area c.args.entry _ c.begin-at.ensures.rest
