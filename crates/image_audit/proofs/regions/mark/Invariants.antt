use Rattle.image_audit.specs.Kept.{Marks}
use Rattle.image_audit.proofs.regions.mark.Given as goal

abbrev pub invariant-loop-i : goal.invariant-loop-i
invariant-loop-i g l = Marks (g.M.Memory.place l.memory) l.initial.marked l.marked l.at l.i
