use Rattle.std.proofs.Common.{sym, ap, ◌∙◌, Ok}
use Rattle.spelling.proofs.Cuts.{is_empty_parts}
use Rattle.script_reader.proofs.Schedules.{schedule_step-items}
use Rattle.script_reader.proofs.lines.take_schedule.Goals as goal

pub returns : goal.returns
returns c =
    let read = rw (c.in-Some-2.is, c.in-Some.is) at c.in_ok-items.ensures in
    rw c.in-Some.is (schedule_step-items c.args.body.now _ c.in-Some-2.items.items (is_empty_parts 32 c.in-Some.field-0.now) (sym read) ∙ ap Ok (sym c.in_ok-add_schedule.ensures))
