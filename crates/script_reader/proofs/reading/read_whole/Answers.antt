use Rattle.std.proofs.Common.{◌≡◌, arith, sym, subst}
use Rattle.script_value.specs.Content.{ScriptValue}
use Rattle.script_value.specs.ScriptText.{text_of_script}
use Rattle.script_value.specs.Valid.{IsScript}
use Rattle.script_reader.specs.Tables.{head_told}
use Rattle.script_reader.proofs.Turns.{script_of-reads}
use Rattle.script_reader.proofs.FoundHead.{script-told}
use Rattle.script_reader.proofs.reading.read_whole.Goals as goal

pub of_parts-requires : goal.of_parts-requires
of_parts-requires c =
    let h = c.in_ok-head.head in
    let s : ScriptValue = record { version = h.version; geometry = h.geometry; tries = h.tries; content = c.in_ok-body.body } in
    let told = script_of-reads c.args.bytes.now (head_told h) c.in_ok-body.body (omega arith) c.in_ok-head.ensures.read (rw c.most_clients.ensures.most at c.in_ok-body.ensures) in
    (script-told c.args.bytes.now s told).0

pub returns : goal.returns
returns c =
    let h = c.in_ok-head.head in
    let s : ScriptValue = record { version = h.version; geometry = h.geometry; tries = h.tries; content = c.in_ok-body.body } in
    let told = script_of-reads c.args.bytes.now (head_told h) c.in_ok-body.body (omega arith) c.in_ok-head.ensures.read (rw c.most_clients.ensures.most at c.in_ok-body.ensures) in
    let bytes = c.args.bytes.now in
    record {
      found = subst (λ (s : ScriptValue). IsScript s × (bytes ≡ text_of_script s)) (sym c.of_parts.ensures) (script-told bytes s told);
      exact = rw c.of_parts.ensures told;
    }
