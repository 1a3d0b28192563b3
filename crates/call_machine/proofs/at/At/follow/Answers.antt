use Rattle.std.specs.Prelude.{Some, None}
use Rattle.std.proofs.Common.{◌∙◌, ap, sym, subst}
use Rattle.verbs.specs.Programs.{goes_on}
use Rattle.scan_pass.specs.Rest.{pass_rest}
use Rattle.op_insert.specs.Rest.{at_rest as insert_at}
use Rattle.remote_resize.specs.ResizeOpRest.{resize_rest}
use Rattle.call_texts.specs.Text.{part_of}
use Rattle.call_machine.specs.Rest.{rest_of, on_insert, on_room, on_walk, on_split}
use Rattle.call_machine.specs.Spare.{InsertDone, RoomDone, SplitDone}
use Rattle.call_machine.specs.Fits.{Settled}
use Rattle.call_machine.specs.Follows.{Follows}
use Rattle.call_machine.proofs.Parts.{ends-follow, walked-on}
use Rattle.call_machine.proofs.at.At.follow.Goals as goal

pub returns-in-Some : goal.returns-in-Some
returns-in-Some c =
    let t = c.args.task.now in
    let m = c.args.machines.now in
    subst (λ o. Follows (Settled m o) (rest_of t m o) t m c.after_insert.new.task c.after_insert.new.machines c.after_insert.result) (sym c.in-Insert.is)
    (ends-follow InsertDone (on_insert t) (insert_at m.work c.in-Insert.at) c.in-Some.end t m c.after_insert.new.task c.after_insert.new.machines c.after_insert.result (sym c.end.ensures.value ∙ c.in-Some.is) c.after_insert.ensures)

pub returns-in-Some-passed : goal.returns-in-Some-passed
returns-in-Some-passed c =
    let t = c.args.task.now in
    let m = c.args.machines.now in
    (walked-on (on_walk t) (pass_rest m.work.pass) c.in-Some-passed.passed _ (sym c.passed.ensures ∙ c.in-Some-passed.is) c.after_walk.ensures.rest ∙ ap (λ o. goes_on part_of (rest_of t m o)) (sym c.in-Walk.is), c.after_walk.ensures.fits, c.after_walk.ensures.caller)

pub returns-in-Some-outcome-2 : goal.returns-in-Some-outcome-2
returns-in-Some-outcome-2 c =
    let t = c.args.task.now in
    let m = c.args.machines.now in
    subst (λ o. Follows (Settled m o) (rest_of t m o) t m c.after_split.new.task c.after_split.new.machines c.after_split.result) (sym c.in-Split.is)
    (ends-follow SplitDone (on_split t (Some t.table)) (resize_rest m.split) c.in-Some-outcome-2.end t m c.after_split.new.task c.after_split.new.machines c.after_split.result (sym c.outcome-in-Split.ensures ∙ c.in-Some-outcome-2.is) c.after_split.ensures)

pub returns-in-Some-outcome-3 : goal.returns-in-Some-outcome-3
returns-in-Some-outcome-3 c =
    let t = c.args.task.now in
    let m = c.args.machines.now in
    subst (λ o. Follows (Settled m o) (rest_of t m o) t m c.after_split-in-Some-outcome-3.new.task c.after_split-in-Some-outcome-3.new.machines c.after_split-in-Some-outcome-3.result) (sym c.in-Resume.is)
    (ends-follow SplitDone (on_split t None) (resize_rest m.split) c.in-Some-outcome-3.end t m c.after_split-in-Some-outcome-3.new.task c.after_split-in-Some-outcome-3.new.machines c.after_split-in-Some-outcome-3.result (sym c.outcome-in-Resume.ensures ∙ c.in-Some-outcome-3.is) c.after_split-in-Some-outcome-3.ensures)

pub returns-in-Some-outcome : goal.returns-in-Some-outcome
returns-in-Some-outcome c =
    let t = c.args.task.now in
    let m = c.args.machines.now in
    subst (λ o. Follows (Settled m o) (rest_of t m o) t m c.after_room.new.task c.after_room.new.machines c.after_room.result) (sym c.in-Room.is)
    (ends-follow RoomDone (on_room t) (resize_rest m.split) c.in-Some-outcome.end t m c.after_room.new.task c.after_room.new.machines c.after_room.result (sym c.outcome.ensures ∙ c.in-Some-outcome.is) c.after_room.ensures)
