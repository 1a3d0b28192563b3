use Rattle.verb_log.proofs.Rows.{no_row_no_kind}
use Rattle.verb_log.proofs.laws.law_no_row_no_kind.Goals as goal

pub returns : goal.returns
returns c = no_row_no_kind
