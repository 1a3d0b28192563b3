use Rattle.std.proofs.Common.{◌∙◌, ap}
use Rattle.split_text.specs.declared.site.SplitJob.{SplitJob}
use Rattle.split_text.specs.Text.{resize}
use Rattle.call_machine.proofs.Splits.{resize-spares}
use Rattle.call_machine.proofs.task.Task.split.Goals as goal

pub returns-clause-rest : goal.returns-clause-rest
returns-clause-rest c =
    let t = c.args.self.now in
    c.start.ensures.rest ∙ ap (λ suffix. let j : SplitJob = record { geometry = t.geometry; client = t.client; table = t.table; depth = t.depth; suffix = suffix } in resize j c.args.left) c.low_bits.ensures

pub returns-clause-spare : goal.returns-clause-spare
returns-clause-spare c = resize-spares _ c.args.left _ c.start.ensures.rest c.requires
