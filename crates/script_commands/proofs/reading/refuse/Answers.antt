use Rattle.std.proofs.Common.{List, ℕ, ◌∙◌, subst}
use Rattle.race_io.specs.Counts.{Rose}
use Rattle.race_io.specs.Transfer.{AppendsPart}
use Rattle.std.specs.Io.KnownBytes.{Appends}
use Rattle.std.specs.Prelude.{◌⊎◌}
use Rattle.script_commands.proofs.Sources.{put_or_failed}
use Rattle.script_commands.proofs.reading.refuse.Goals as goal

pub returns-clause-told : goal.returns-clause-told
returns-clause-told g c e =
    let old = g.K.Sink.taken c.args.sink.now in
    let new = g.K.Sink.taken c.put_all.new.sink in
    subst (λ (text : List ℕ). Appends old new text ⊎ (Rose (g.K.Sink.faults c.args.sink.now) (g.K.Sink.faults c.put_all.new.sink) × AppendsPart old new text))
    (c.as_slice.ensures ∙ c.in-Ok.ensures)
    (put_or_failed c.put_all.result c.put_all.ensures.appended c.put_all.ensures.part c.put_all.ensures.failed)
