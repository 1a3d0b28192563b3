use Rattle.std.proofs.Common.{ap, sym, subst}
use Rattle.std.specs.Prelude.{Err}
use Rattle.race_io.specs.Transfer.{TakesAll}
use Rattle.node_image.specs.Image.{IsAudited}
use Rattle.image_commands.proofs.Reading.{sound_read, bad_read}
use Rattle.image_commands.proofs.auditing.audit.Goals as goal

pub returns-in-Ok-Sound-clause-sound : goal.returns-in-Ok-Sound-clause-sound
returns-in-Ok-Sound-clause-sound g c status = record {
  pairs = c.in-Ok-Sound.map;
  are = sound_read (g.S.Source.left c.args.source.now) (g.S.Source.left c.take_all.new.source) c.as_slice.result.now c.in-Ok-Sound.map
      (subst (TakesAll (g.S.Source.left c.args.source.now) (g.S.Source.left c.take_all.new.source) 16777217) (sym c.as_slice.ensures) c.in-Ok.ensures.taken)
      (subst (IsAudited c.as_slice.result.now) c.in-Ok-Sound.field-0-is c.in-Ok-Sound.ensures.audited);
  written = c.tell_sound.ensures.whole status;
}

pub returns-in-Ok-Sound-clause-in_part : goal.returns-in-Ok-Sound-clause-in_part
returns-in-Ok-Sound-clause-in_part g c status = record {
  pairs = c.in-Ok-Sound.map;
  are = sound_read (g.S.Source.left c.args.source.now) (g.S.Source.left c.take_all.new.source) c.as_slice.result.now c.in-Ok-Sound.map
      (subst (TakesAll (g.S.Source.left c.args.source.now) (g.S.Source.left c.take_all.new.source) 16777217) (sym c.as_slice.ensures) c.in-Ok.ensures.taken)
      (subst (IsAudited c.as_slice.result.now) c.in-Ok-Sound.field-0-is c.in-Ok-Sound.ensures.audited);
  written = c.tell_sound.ensures.part status;
}

pub returns-in-Ok-Bad-clause-bad : goal.returns-in-Ok-Bad-clause-bad
returns-in-Ok-Bad-clause-bad g c status =
    bad_read (g.S.Source.left c.args.source.now) (g.S.Source.left c.take_all.new.source) c.as_slice.result.now (g.K.Sink.taken c.args.sink.now) (g.K.Sink.taken c.tell_bad.new.sink) (g.K.Sink.faults c.args.sink.now) (g.K.Sink.faults c.tell_bad.new.sink) c.in-Ok-Bad.at
    (subst (TakesAll (g.S.Source.left c.args.source.now) (g.S.Source.left c.take_all.new.source) 16777217) (sym c.as_slice.ensures) c.in-Ok.ensures.taken)
    (subst (IsAudited c.as_slice.result.now) c.in-Ok-Bad.field-0-is c.in-Ok-Bad.ensures.audited)
    (c.tell_bad.ensures.told status)

pub returns-in-Err-Malformed-clause-refused : goal.returns-in-Err-Malformed-clause-refused
returns-in-Err-Malformed-clause-refused g c status = record {
  bytes = c.as_slice.result.now;
  taken = subst (TakesAll (g.S.Source.left c.args.source.now) (g.S.Source.left c.take_all.new.source) 16777217) (sym c.as_slice.ensures) c.in-Ok.ensures.taken;
  malformed = c.in-Err-Malformed.ensures.malformed (ap Err c.in-Err-Malformed.field-0-is);
  written = c.refuse.ensures.told;
}
