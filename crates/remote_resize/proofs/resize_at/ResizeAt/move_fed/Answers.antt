-- An act of a part.
use Rattle.std.proofs.Common.{refl}
use Rattle.remote_resize.proofs.Parts.{after_part}
use Rattle.remote_resize.proofs.resize_at.ResizeAt.move_fed.Goals as goal

pub returns-clause-rest : goal.returns-clause-rest
returns-clause-rest c = after_part _ _ _ _ _ c.args.word c.requires.going.1 c.feed.ensures.rest (refl) c.moved.ensures.rest
