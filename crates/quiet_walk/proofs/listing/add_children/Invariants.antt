use Rattle.quiet_walk.proofs.Levels.{Behind}
use Rattle.quiet_walk.proofs.listing.add_children.Given as goal

abbrev pub invariant-loop-level : goal.invariant-loop-level
invariant-loop-level g l = Behind (g.M.Memory.shape l.memory) (g.M.Memory.words l.memory) l.table l.initial.tables.items l.tables.items l.level
