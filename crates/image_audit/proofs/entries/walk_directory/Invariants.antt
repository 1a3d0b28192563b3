use Rattle.std.proofs.Common.{ℕ, ◌<◌}
use Rattle.image_laws.specs.Sound.{DirectoryRule}
use Rattle.image_audit.proofs.entries.walk_directory.Given as goal

abbrev pub invariant-loop-j : goal.invariant-loop-j
invariant-loop-j g l = (k : ℕ) → k < l.j → DirectoryRule (g.M.Memory.shape l.memory) (g.M.Memory.words l.memory) k
