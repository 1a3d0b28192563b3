use Rattle.quiet_walk.proofs.ListedTables.{small_at}
use Rattle.quiet_walk.proofs.Walking.{table_quiet, table_loud}
use Rattle.quiet_walk.proofs.walk.loud_in_tables.Goals as goal

pub loud_in_table-loud-requires : goal.loud_in_table-loud-requires
loud_in_table-loud-requires g c = (small_at c.args.tables.now c.loop-index.index _ c.loop-index-test.true c.requires).at

pub returns-in-Some : goal.returns-in-Some
returns-in-Some g c = table_loud (g.M.Memory.shape c.args.memory.now) (g.M.Memory.words c.args.memory.now) c.args.tables.now c.loop-index.index _ c.in-Some.at c.loop-index-test.true c.loop-index.invariant c.in-Some.ensures

pub loop-index-preserved : goal.loop-index-preserved
loop-index-preserved g c = table_quiet (g.M.Memory.shape c.args.memory.now) (g.M.Memory.words c.args.memory.now) c.args.tables.now c.loop-index.index _ c.loop-index-test.true c.loop-index.invariant c.in-None.ensures
