use Rattle.std.proofs.Common.{take}
use Rattle.image_audit.specs.Kept.{Indexes}
use Rattle.image_audit.proofs.entries.index.Given as goal

abbrev pub invariant-loop-table : goal.invariant-loop-table
invariant-loop-table l = Indexes l.index (take l.table-index l.tables)
