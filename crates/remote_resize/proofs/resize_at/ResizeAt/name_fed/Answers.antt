-- An act of a part.
use Rattle.std.proofs.Common.{refl}
use Rattle.remote_resize.proofs.Parts.{after_part}
use Rattle.remote_resize.proofs.resize_at.ResizeAt.name_fed.Goals as goal

pub returns-clause-rest : goal.returns-clause-rest
returns-clause-rest c = after_part _ _ _ _ _ c.args.word c.requires.going c.feed.ensures.rest (refl) c.named.ensures.rest
