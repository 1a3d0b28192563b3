use Rattle.std.proofs.Common.{refl}
use Rattle.kv_block.specs.Packing.{Pair}
use Rattle.op_insert.specs.Text.{Inserting}
use Rattle.op_insert.specs.InsertRest.{start_of}
use Rattle.op_insert.proofs.Bounds.{within_as_insert}
use Rattle.op_insert.proofs.Whole.{safe_as_insert}
use Rattle.op_insert.proofs.insert_op.InsertOp.start.Goals as goal

pub returns-clause-within : goal.returns-clause-within
returns-clause-within c =
    let i : Inserting = start_of c.args.geometry c.args.client c.args.hash c.args.key.now c.args.value.now c.args.tries_left in
    let pair : Pair = record { key = c.args.key.now; value = c.args.value.now } in
    within_as_insert i pair c.begin-at.ensures.pair refl c.args.entry c.args.kept c.args.area _ c.begin-at.ensures.rest

pub returns-clause-safe : goal.returns-clause-safe
returns-clause-safe c =
    let i : Inserting = start_of c.args.geometry c.args.client c.args.hash c.args.key.now c.args.value.now c.args.tries_left in
    safe_as_insert i c.args.entry c.args.kept c.args.area _ c.begin-at.ensures.rest
