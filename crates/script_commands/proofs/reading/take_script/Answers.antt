use Rattle.std.proofs.Common.{rules, sym, subst}
use Rattle.race_io.specs.Transfer.{TakesAll}
use Rattle.script_commands.proofs.Sources.{read-whole, refused-bytes}
use Rattle.script_commands.proofs.reading.take_script.Goals as goal

pub returns-in-Ok-read_script-clause-read : goal.returns-in-Ok-read_script-clause-read
returns-in-Ok-read_script-clause-read g c =
    let old = g.S.Source.left c.args.source.now in
    let new = g.S.Source.left c.take_all.new.source in
    read-whole old new c.as_slice.result.now c.in-Ok-read_script.script (subst (TakesAll old new 4194305) (sym c.as_slice.ensures) c.in-Ok.ensures.taken)
    (record {
      is = c.in-Ok-read_script.ensures.found.0;
      spelled = c.in-Ok-read_script.ensures.found.1;
      read = c.in-Ok-read_script.ensures.exact;
    })

pub returns-in-Err-Refused-clause-refused : goal.returns-in-Err-Refused-clause-refused
returns-in-Err-Refused-clause-refused g c status = record {
  bytes = c.as_slice.result.now;
  refusal = (c.in-Err-Refused.line, c.in-Err-Refused.kind);
  taken = subst (TakesAll (g.S.Source.left c.args.source.now) (g.S.Source.left c.take_all.new.source) 4194305) (sym c.as_slice.ensures) c.in-Ok.ensures.taken;
  is = refused-bytes c.as_slice.result.now c.in-Err-Refused.field-0 c.in-Err-Refused.line c.in-Err-Refused.kind (search rules) c.in-Err-Refused.ensures.exact;
  written = c.refuse.ensures.told status;
}
