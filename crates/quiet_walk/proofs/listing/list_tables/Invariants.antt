use Rattle.std.proofs.Common.{◌-◌, length}
use Rattle.image_laws.specs.Walk.{tables}
use Rattle.quiet_walk.proofs.ListedTables.{Listed}
use Rattle.quiet_walk.proofs.listing.list_tables.Given as goal

abbrev pub invariant-loop-index : goal.invariant-loop-index
invariant-loop-index g l = Listed (g.M.Memory.shape l.memory) (g.M.Memory.words l.memory) l.index l.list.items

abbrev pub decreases-loop-index : goal.decreases-loop-index
decreases-loop-index g l = length (tables (g.M.Memory.shape l.memory) (g.M.Memory.words l.memory)) - l.index
