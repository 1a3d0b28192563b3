use Rattle.image_audit.specs.Kept.{SoFar, setting_of}
use Rattle.image_audit.proofs.Loops.{first_words}
use Rattle.image_audit.proofs.auditor.Auditor.walk_table.Given as goal

abbrev pub invariant-loop-offset : goal.invariant-loop-offset
invariant-loop-offset g l = SoFar (setting_of (g.M.Memory.shape l.memory) (g.P.Placer.listed l.placer)) (g.M.Memory.words l.memory) (g.M.Memory.place l.memory) (g.M.Memory.cells l.memory)
    (first_words (setting_of (g.M.Memory.shape l.memory) (g.P.Placer.listed l.placer)) (g.M.Memory.words l.memory) (g.M.Memory.place l.memory) (g.M.Memory.cells l.memory) l.table l.offset)
    l.initial.self.tables.items l.initial.self.marked.items l.initial.self.blocks l.self.tables.items l.self.marked.items l.self.blocks
