use Rattle.std.proofs.Common.{◌∙◌, sym, ap, refl}
use Rattle.remote_resize.specs.ResizeOpRest.{resize_rest}
use Rattle.split_text.specs.Text.{resize, resume}
use Rattle.call_texts.specs.Text.{split_job}
use Rattle.call_machine.specs.declared.task.Task.{Task}
use Rattle.call_machine.specs.Tasks.{caller_in}
use Rattle.call_machine.proofs.Rooms.{room-resumes, room-splits}
use Rattle.call_machine.proofs.steps.room.Goals as goal

pub returns-in-Some-clause-rest : goal.returns-in-Some-clause-rest
returns-in-Some-clause-rest c =
    let t = c.args.task.now in
    let u : Task = record t { kept = c.args.kept; left = c.saturating_sub-task.result; area = c.args.end.now.area; table = c.args.end.now.table; depth = c.args.passed.now.head.depth; low = c.requires.low } in
    room-resumes t u c.args.end.now c.args.passed.now c.args.kept c.in-Some.ticket _ (resize_rest c.gone_on-machines.result) c.in-Some.is
    (c.gone_on-machines.ensures.rest ∙ ap (resume c.in-Some.ticket) c.saturating_sub-task.ensures) c.gone_on-machines.ensures.waits
    (record { caller = refl; pair = refl; full = refl; forgotten = refl; table = refl; area = refl; kept_so = refl; depth = refl })

pub returns-then-not-is_plain_at-clause-rest : goal.returns-then-not-is_plain_at-clause-rest
returns-then-not-is_plain_at-clause-rest c =
    let t = c.args.task.now in
    let u : Task = record t { kept = c.args.kept; left = c.saturating_sub-task.result; area = c.args.end.now.area; table = c.args.end.now.table; depth = c.args.passed.now.head.depth; low = c.requires.low } in
    room-splits t u c.args.end.now c.args.passed.now c.args.kept _ (resize_rest c.split-machines.result) c.in_default.is (sym c.is_plain_at.ensures ∙ c.if-not-is_plain_at.true)
    (c.split-machines.ensures.rest ∙ ap (resize (split_job (caller_in t) c.args.end.now.table c.args.passed.now.head.depth)) c.saturating_sub-task.ensures) c.split-machines.ensures.waits
    (record { caller = refl; pair = refl; full = refl; forgotten = refl; table = refl; area = refl; kept_so = refl; depth = refl })
