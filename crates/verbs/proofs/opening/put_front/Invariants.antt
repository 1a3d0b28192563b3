use Rattle.verbs.specs.Begun.{Begun}
use Rattle.verbs.proofs.opening.put_front.Given as goal

abbrev pub invariant-loop-at : goal.invariant-loop-at
invariant-loop-at l = Begun l.geometry l.at 0 l.words.items
