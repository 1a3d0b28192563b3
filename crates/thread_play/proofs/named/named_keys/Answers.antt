use Rattle.std.proofs.Common.{arith}
use Rattle.thread_play.proofs.Naming.{seen_none, client_named}
use Rattle.thread_play.proofs.named.named_keys.Goals as goal

pub loop-client-init : goal.loop-client-init
loop-client-init c = record {
  seen = seen_none c.new-seen.result c.new-keys.result.items c.new-seen.ensures;
  named = λ client low. absurd (omega arith);
}

pub loop-client-preserved : goal.loop-client-preserved
loop-client-preserved c =
    let l = c.loop-client in
    let ens = c.in_ok-name_all.ensures in
    record {
      seen = ens.seen;
      named = client_named c.args.script.now.content l.client l.keys.items c.name_all.new.keys.items c.calls.result.now.items l.invariant.named ens.kept c.calls.ensures ens.named;
    }

pub returns : goal.returns
returns c =
    let l = c.loop-client in
    λ client low.
    let past = c.loop-client-test.false in
    let end = l.auto.client-end in
    let many = c.clients-client-end.ensures.number in
    l.invariant.named client (omega arith)
