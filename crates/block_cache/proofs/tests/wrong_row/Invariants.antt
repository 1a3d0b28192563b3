use Rattle.block_cache.specs.Keeps.{Keeps}
use Rattle.block_cache.specs.Still.{still}
use Rattle.block_cache.proofs.tests.wrong_row.Given as goal

abbrev pub invariant-loop-n : goal.invariant-loop-n
invariant-loop-n l = Keeps (still l.node.log.geometry) l.node.log.entries l.cache
