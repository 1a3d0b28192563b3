use Rattle.std.proofs.Common.{◌≡◌}
use Rattle.insert_tests.proofs.tests.inserts.run.Given as goal

-- the memory keeps its size
abbrev pub invariant-loop-verbs : goal.invariant-loop-verbs
invariant-loop-verbs l = l.node.log.geometry ≡ l.fn.node.log.geometry
