use Rattle.std.proofs.Common.{◌∙◌, sym}
use Rattle.std.proofs.lemmas.Bool.{cond-false}
use Rattle.script_reader.proofs.Turns.{is_all-parts, is_empty-some}
use Rattle.script_reader.proofs.reading.ended.Goals as goal

pub returns : goal.returns
returns c = cond-false _ _ _ (is_all-parts 10 c.args.behind.now ∙ is_empty-some c.args.behind.now (sym c.is_empty.ensures ∙ c.if-is_empty.false))
