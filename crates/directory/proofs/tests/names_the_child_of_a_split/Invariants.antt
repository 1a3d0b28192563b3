use Rattle.std.proofs.Common.{◌≡◌}
use Rattle.directory.proofs.tests.names_the_child_of_a_split.Given as goal

-- the memory keeps its size
abbrev pub invariant-loop-verb : goal.invariant-loop-verb
invariant-loop-verb g l = l.node.log.geometry.words ≡ 200

abbrev pub invariant-loop-at : goal.invariant-loop-at
invariant-loop-at g l = l.node.log.geometry.words ≡ 200
