use Rattle.std.proofs.Common.{◌≡◌}
use Rattle.block_cache.specs.Keeps.{Keeps}
use Rattle.block_cache.specs.Still.{still}
use Rattle.block_cache.proofs.tests.read_words.Given as goal

abbrev pub invariant-loop-i : goal.invariant-loop-i
invariant-loop-i l = record {
  geometry : l.node.log.geometry ≡ l.initial.node.log.geometry;
  entries : l.node.log.entries ≡ l.initial.node.log.entries;
  keeps : Keeps (still l.node.log.geometry) l.node.log.entries l.cache;
}
