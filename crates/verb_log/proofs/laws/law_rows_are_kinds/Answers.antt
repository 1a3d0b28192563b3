use Rattle.verb_log.proofs.Rows.{rows_are_kinds}
use Rattle.verb_log.proofs.laws.law_rows_are_kinds.Goals as goal

pub returns : goal.returns
returns c = rows_are_kinds
