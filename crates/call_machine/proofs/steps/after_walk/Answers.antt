use Rattle.std.proofs.Common.{◌∙◌, sym}
use Rattle.remote_resize.specs.ResizeOpRest.{resize_rest}
use Rattle.call_machine.proofs.Rooms.{walk-splits}
use Rattle.call_machine.proofs.steps.after_walk.Goals as goal

pub returns-clause-rest : goal.returns-clause-rest
returns-clause-rest c = walk-splits c.args.task.now c.args.passed.now (resize_rest c.split-machines.result) (sym c.is_plain_at.ensures ∙ c.if-is_plain_at.false) c.split-machines.ensures.rest c.split-machines.ensures.waits
