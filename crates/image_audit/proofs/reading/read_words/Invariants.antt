use Rattle.image_audit.proofs.Slots.{Read}
use Rattle.image_audit.proofs.reading.read_words.Given as goal

abbrev pub invariant-loop-i : goal.invariant-loop-i
invariant-loop-i g l = Read (g.M.Memory.shape l.memory) (g.M.Memory.words l.memory) l.at l.words l.i
