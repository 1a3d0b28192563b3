use Rattle.std.proofs.Common.{◌∙◌, ◌<◌, ◌≤◌, length, arith}
use Rattle.std.proofs.lemmas.Bool.{cond-true, cond-false, lt-ltb, le-ltb}
use Rattle.script_reader.proofs.Turns.{next_line-more}
use Rattle.script_reader.proofs.reading.next_line.Goals as goal

pub returns-then-line-gt-MOST_LINE_BYTES-clause-read : goal.returns-then-line-gt-MOST_LINE_BYTES-clause-read
returns-then-line-gt-MOST_LINE_BYTES-clause-read c =
    let long : 4096 < length c.cut.result.0.now = omega arith in
    rw (c.cut.ensures.parts, c.in-Some.is) (next_line-more c.cut.result.0.now c.in-Some.rest.now ∙ cond-true _ _ _ (lt-ltb 4096 (length c.cut.result.0.now) long))

pub returns-clause-read : goal.returns-clause-read
returns-clause-read c =
    let short : length c.cut.result.0.now ≤ 4096 = omega arith in
    rw (c.cut.ensures.parts, c.in-Some.is) (next_line-more c.cut.result.0.now c.in-Some.rest.now ∙ cond-false _ _ _ (le-ltb 4096 (length c.cut.result.0.now) short))
