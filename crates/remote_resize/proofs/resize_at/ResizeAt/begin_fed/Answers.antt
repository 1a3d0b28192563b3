-- An act of a part.
use Rattle.std.proofs.Common.{ap}
use Rattle.split_text.specs.declared.site.SplitJob.{SplitJob}
use Rattle.split_text.specs.declared.begun.BeginEnd.{BeginEnd}
use Rattle.split_text.specs.declared.resized.ResizeEnd.{ResizeEnd}
use Rattle.verbs.specs.Programs.{Prog}
use Rattle.split_text.specs.Text.{after_begin}
use Rattle.remote_resize.proofs.Parts.{after_part}
use Rattle.remote_resize.proofs.resize_at.ResizeAt.begin_fed.Goals as goal

pub returns-clause-rest : goal.returns-clause-rest
returns-clause-rest c = after_part _ _ _ _ _ c.args.word c.requires.going c.feed.ensures.rest (ap {B = BeginEnd → Prog ResizeEnd} (λ (j : SplitJob) (e : BeginEnd). after_begin j e.left e.outcome) c.feed.ensures.kept) c.began.ensures.rest
