use Rattle.std.proofs.Common.{take}
use Rattle.call_machine.proofs.Forgets.{forgets_next, forgets_depth}
use Rattle.call_machine.proofs.forgotten.Forgotten.forget_in.Goals as goal

pub loop-table-preserved : goal.loop-table-preserved
loop-table-preserved c =
    (c.tables-table-items.ensures, forgets_next c.tables-table-items.result.now c.loop-table.table-index c.args.cache.now c.loop-table.cache c.forget.new.self c.loop-table-test.true c.loop-table.invariant.1 c.forget.ensures.depth c.forget.ensures.entries)

pub returns-clause-depth : goal.returns-clause-depth
returns-clause-depth c = forgets_depth (take c.loop-table.table-index c.tables-table-items.result.now) c.args.cache.now c.loop-table.cache c.loop-table.invariant.1
