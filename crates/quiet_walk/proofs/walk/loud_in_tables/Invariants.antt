use Rattle.quiet_walk.specs.Loud.{AllQuiet}
use Rattle.quiet_walk.proofs.Walking.{words_before}
use Rattle.quiet_walk.proofs.walk.loud_in_tables.Given as goal

abbrev pub invariant-loop-index : goal.invariant-loop-index
invariant-loop-index g l = AllQuiet (g.M.Memory.words l.memory) (words_before (g.M.Memory.shape l.memory) (g.M.Memory.words l.memory) l.tables l.index)
