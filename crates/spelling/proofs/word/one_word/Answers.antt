use Rattle.std.proofs.Common.{sym}
use Rattle.spelling.proofs.Cuts.{one_of-more}
use Rattle.spelling.proofs.word.one_word.Goals as goal

pub returns-in-Some : goal.returns-in-Some
returns-in-Some c = rw (c.in_ok-words.was, c.cut.ensures.parts, c.in-Some.is) (sym (one_of-more c.cut.result.0.now 32 c.in-Some.field-0.now))
