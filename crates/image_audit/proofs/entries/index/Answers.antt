use Rattle.std.proofs.Common.{arith, take, subst, sym}
use Rattle.std.proofs.lemmas.List.{take_more}
use Rattle.image_audit.specs.Kept.{Indexes}
use Rattle.image_audit.proofs.DirectoryWords.{index_more}
use Rattle.image_audit.proofs.entries.index.Goals as goal

pub loop-table-preserved : goal.loop-table-preserved
loop-table-preserved c = let h = c.in_ok-insert.ensures.updates in subst (Indexes c.insert.new.self) (sym (take_more c.args.tables.now c.loop-table.table-index _ (omega arith))) (index_more c.loop-table.index c.insert.new.self (take c.loop-table.table-index c.args.tables.now) _ c.loop-table.invariant h.0)
