use Rattle.std.proofs.Common.{sym}
use Rattle.spelling.proofs.Cuts.{two_of-more}
use Rattle.spelling.proofs.word.two_words.Goals as goal

pub returns-in-Some : goal.returns-in-Some
returns-in-Some c =
    rw (c.in_ok-words.was, c.cut.ensures.parts, c.in_ok-rest.was, c.cut-2.ensures.parts, c.in-Some.is)
    (sym (two_of-more c.cut.result.0.now c.cut-2.result.0.now 32 c.in-Some.field-0.now))
