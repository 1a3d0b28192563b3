use Rattle.std.proofs.Common.{sym}
use Rattle.std.proofs.lemmas.Result.{on_ok_weaker}
use Rattle.indexmap.specs.Layout.{length-set_value_at}
use Rattle.script_value.proofs.Entries.{called-last}
use Rattle.script_value.proofs.body.call_last.Goals as goal

pub returns : goal.returns
returns c =
    let es = c.args.clients.now.entries in
    record {
      called = on_ok_weaker c.push.result (λ more. called-last es c.in-Some.calls.now c.push.new.self c.args.call c.requires (sym c.in-Some.ensures.value) more) c.push.ensures.appended;
      length = length-set_value_at es _ c.push.new.self;
    }
