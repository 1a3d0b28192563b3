use Rattle.node_image.proofs.ListedKeys.{EntriesSoFar}
use Rattle.node_image.proofs.entries.read_entries.Given as goal

abbrev pub invariant-loop : goal.invariant-loop
invariant-loop l = EntriesSoFar l.numbers l.listed l.counter l.at
