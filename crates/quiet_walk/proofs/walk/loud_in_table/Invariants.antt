use Rattle.quiet_walk.specs.Loud.{AllQuiet}
use Rattle.quiet_walk.proofs.Walking.{words_to}
use Rattle.quiet_walk.proofs.walk.loud_in_table.Given as goal

abbrev pub invariant-loop-offset : goal.invariant-loop-offset
invariant-loop-offset g l = AllQuiet (g.M.Memory.words l.memory) (words_to (g.M.Memory.words l.memory) l.table l.offset)
