use Rattle.std.proofs.Common.{sym, [], reverse, take}
use Rattle.verb_log.proofs.Linked.{table_first, table_low}
use Rattle.verb_log.proofs.Told.{table_by_link, low_table}
use Rattle.verb_log.proofs.index.Index.table_at.Goals as goal

pub returns-in-Some-clause-table : goal.returns-in-Some-clause-table
returns-in-Some-clause-table c = sym (table_first c.args.geometry.now (reverse (take c.args.n c.args.entries.now)) c.args.at c.in-Some.table (sym c.in-Some.ensures))

pub returns-in-Some-clause-below : goal.returns-in-Some-clause-below
returns-in-Some-clause-below c = table_low c.args.geometry.now [] c.args.at c.in-Some.table (sym c.in-Some.ensures)

pub returns-in-None-clause-table : goal.returns-in-None-clause-table
returns-in-None-clause-table c = table_by_link c.args.geometry.now c.args.entries.now c.args.n c.args.at _ c.requires.position (sym c.in-None.ensures) c.linked_table_at.ensures

pub returns-in-None-clause-below : goal.returns-in-None-clause-below
returns-in-None-clause-below c = low_table c.args.geometry.now (reverse (take c.args.n c.args.entries.now)) c.args.at _ (returns-in-None-clause-table c)
