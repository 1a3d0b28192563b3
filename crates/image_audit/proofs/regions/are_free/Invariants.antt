use Rattle.image_audit.specs.Kept.{AreFree}
use Rattle.image_audit.proofs.regions.are_free.Given as goal

abbrev pub invariant-loop-i : goal.invariant-loop-i
invariant-loop-i g l = AreFree (g.M.Memory.shape l.memory) (g.M.Memory.words l.memory) (g.M.Memory.place l.memory) l.marked l.at l.i
