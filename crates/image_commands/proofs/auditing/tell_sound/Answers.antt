use Rattle.std.proofs.Common.{List, ℕ, ◌∙◌, subst}
use Rattle.std.specs.FinMap as fin
use Rattle.std.specs.Io.KnownBytes.{Appends}
use Rattle.race_io.specs.Transfer.{AppendsPart}
use Rattle.image_commands.proofs.PageTexts.{report_is}
use Rattle.image_commands.proofs.auditing.tell_sound.Goals as goal

pub returns-in-Ok-put_report-clause-whole : goal.returns-in-Ok-put_report-clause-whole
returns-in-Ok-put_report-clause-whole g c status = subst (λ (v : List ℕ). Appends (g.K.Sink.taken c.args.sink.now) (g.K.Sink.taken c.put_report.new.sink) v) (report_is (fin.entries c.args.map.now) c.pairs.result c.as_slice.result.now c.len.result (c.as_slice.ensures ∙ c.in-Ok.ensures) c.len.ensures.value c.pairs.ensures) c.in-Ok-put_report.ensures.whole

pub returns-clause-part : goal.returns-clause-part
returns-clause-part g c status = subst (λ (v : List ℕ). AppendsPart (g.K.Sink.taken c.args.sink.now) (g.K.Sink.taken c.put_report.new.sink) v) (report_is (fin.entries c.args.map.now) c.pairs.result c.as_slice.result.now c.len.result (c.as_slice.ensures ∙ c.in-Ok.ensures) c.len.ensures.value c.pairs.ensures) c.in-Err.ensures.part
