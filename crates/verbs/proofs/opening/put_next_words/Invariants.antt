use Rattle.node_words.specs.Addresses.{first_free}
use Rattle.verbs.specs.Begun.{Begun}
use Rattle.verbs.proofs.opening.put_next_words.Given as goal

abbrev pub invariant-loop-node : goal.invariant-loop-node
invariant-loop-node l = Begun l.geometry (first_free l.geometry) l.node l.words.items
