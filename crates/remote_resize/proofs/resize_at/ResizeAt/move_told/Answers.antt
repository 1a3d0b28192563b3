-- An act of a part.
use Rattle.std.proofs.Common.{refl}
use Rattle.remote_resize.proofs.Parts.{after_part, asked_part}
use Rattle.remote_resize.proofs.resize_at.ResizeAt.move_told.Goals as goal

pub returns-clause-rest : goal.returns-clause-rest
returns-clause-rest c = after_part _ _ _ _ _ c.args.hash c.requires.going.1 (c.told.ensures.rest (asked_part _ _ c.requires.going.1 c.requires.waits)) (refl) c.moved.ensures.rest
