use Rattle.verb_log.specs.Indexed.{ToldTo}
use Rattle.verb_log.proofs.links.tell.Given as goal

abbrev pub invariant-loop-at : goal.invariant-loop-at
invariant-loop-at l = ToldTo l.span l.number l.at l.fn.numbers l.numbers
