use Rattle.std.proofs.Common.{List, ℕ, subst}
use Rattle.race_io.specs.Transfer.{AppendsPart}
use Rattle.image_audit.specs.Kept.{setting_of}
use Rattle.node_image.specs.Written.{IsImaged}
use Rattle.image_commands.proofs.imaging.write_image.Goals as goal

pub returns-in-Bytes-clause-part : goal.returns-in-Bytes-clause-part
returns-in-Bytes-clause-part g c status =
    let made = subst (IsImaged (setting_of c.args.geometry.now c.args.listed.now) c.args.log.now.entries) c.in-Bytes.is c.in-Ok.ensures in
    record {
      bytes = c.in-Bytes.bytes.items;
      is = made.0;
      written = subst (λ (bytes : List ℕ). AppendsPart (g.K.Sink.taken c.args.sink.now) (g.K.Sink.taken c.put_bytes.new.sink) bytes) c.as_slice.ensures (c.put_bytes.ensures.part status);
    }
