use Rattle.race_laws.proofs.FirstInsert.{insert_is_legal}
use Rattle.race_laws.proofs.laws.law_first_insert.Goals as goal

pub returns : goal.returns
returns c = insert_is_legal
