use Rattle.std.proofs.Common.{◌≡◌, ◌++◌, map, drop}
use Rattle.verb_core.specs.Play.{unfinished_of}
use Rattle.race_play.proofs.played.unfinished_calls.Given as goal

-- the numbers so far, and those of the clients that are left
abbrev pub invariant-loop-client : goal.invariant-loop-client
invariant-loop-client l = l.numbers.items ++ map unfinished_of (drop l.client l.world.players) ≡ map unfinished_of l.world.players
