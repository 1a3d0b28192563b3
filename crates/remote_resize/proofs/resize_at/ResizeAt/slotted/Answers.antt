-- The slots that are left.
use Rattle.std.proofs.Common.{◌∙◌, ap, arith, ℕ}
use Rattle.split_text.specs.Move.{move}
use Rattle.remote_resize.specs.MoveRest.{move_rest}
use Rattle.remote_resize.proofs.Parts.{slots_more}
use Rattle.remote_resize.proofs.resize_at.ResizeAt.slotted.Goals as goal

pub returns-clause-rest : goal.returns-clause-rest
returns-clause-rest c = slots_more c.args.work.now.geometry c.args.work.now.client c.args.work.now.site c.args.work.now.more c.args.work.now.slot c.args.work.now.left (move_rest c.judging-work.result)
    (c.judging-work.ensures.rest ∙ ap (λ (n : ℕ). move c.args.work.now.site n 0 c.args.work.now.left) c.place_of.ensures.place)
    (let h = c.if-work-eq0.false in omega (arith, h))
