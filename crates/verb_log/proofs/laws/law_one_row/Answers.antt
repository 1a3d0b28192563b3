use Rattle.verb_log.proofs.Rows.{one_row}
use Rattle.verb_log.proofs.laws.law_one_row.Goals as goal

pub returns : goal.returns
returns c = one_row
