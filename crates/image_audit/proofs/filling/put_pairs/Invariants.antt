use Rattle.image_audit.specs.Held.{Filled, map_walked}
use Rattle.image_audit.proofs.filling.put_pairs.Given as goal

abbrev pub invariant-loop-turn : goal.invariant-loop-turn
invariant-loop-turn g l = Filled (g.M.Memory.shape l.memory) (g.M.Memory.words l.memory) (map_walked (g.M.Memory.shape l.memory) (g.M.Memory.words l.memory)) l.map l.words l.turn
