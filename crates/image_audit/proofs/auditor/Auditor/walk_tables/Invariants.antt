use Rattle.std.proofs.Common.{◌-◌, length}
use Rattle.image_laws.specs.Walk.{tables}
use Rattle.image_audit.specs.Kept.{Through, setting_of}
use Rattle.image_audit.proofs.auditor.Auditor.walk_tables.Given as goal

abbrev pub invariant-loop-index : goal.invariant-loop-index
invariant-loop-index g l = Through (setting_of (g.M.Memory.shape l.memory) (g.P.Placer.listed l.placer)) (g.M.Memory.words l.memory) (g.M.Memory.place l.memory) (g.M.Memory.cells l.memory) l.index l.self.tables.items l.self.marked.items l.self.blocks

abbrev pub decreases-loop-index : goal.decreases-loop-index
decreases-loop-index g l = length (tables (g.M.Memory.shape l.memory) (g.M.Memory.words l.memory)) - l.index
