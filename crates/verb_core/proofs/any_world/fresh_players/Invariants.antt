use Rattle.verb_core.specs.Play.{AreFresh}
use Rattle.verb_core.proofs.any_world.fresh_players.Given as goal

abbrev pub invariant-loop-client : goal.invariant-loop-client
invariant-loop-client g l = AreFresh l.geometry l.tries l.client l.players.items
