use Rattle.std.proofs.Common.{ap, ◌∙◌, Ok}
use Rattle.spelling.specs.Words.{parts_at}
use Rattle.script_reader.specs.Rules.{Reading, ending}
use Rattle.script_reader.specs.Drafts.{reading_of}
use Rattle.script_reader.proofs.Turns.{turn_halts, turn_ends}
use Rattle.script_reader.proofs.reading.read_lines.Goals as goal

pub returns-in-Err-take_line : goal.returns-in-Err-take_line
returns-in-Err-take_line c =
    let d = c.lines.draft in
    rw c.on_line.ensures
    (turn_halts d.most c.lines.number (reading_of d) (parts_at 10 c.lines.rest.now) _ c.lines.invariant.same c.in-Ok.found.0.now (parts_at 10 c.in-Ok.found.1.now)
    c.in-Ok.ensures.read c.in-Err-take_line.halt c.in-Err-take_line.ensures.read)

pub returns-in-End : goal.returns-in-End
returns-in-End c =
    let d = c.lines.draft in
    let ends = turn_ends d.most c.lines.number (reading_of d) (parts_at 10 c.lines.rest.now) _ c.lines.invariant.same c.in-Ok.found.0.now (parts_at 10 c.in-Ok.found.1.now)
    c.in-Ok.ensures.read (rw c.in-End.is at c.in-Ok-take_line.ensures.read) in
    let kept = c.take_line.ensures.ended (c.in-Ok-take_line.is ∙ ap Ok c.in-End.is) in
    let body = ap (λ (r : Reading). ending c.lines.number r.content (parts_at 10 c.in-Ok.found.1.now)) kept in
    rw (← ends, ← body) c.ended.ensures
