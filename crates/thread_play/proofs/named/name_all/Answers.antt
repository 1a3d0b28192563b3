use Rattle.std.proofs.Common.{arith}
use Rattle.std.proofs.lemmas.Option.{slice_get_within}
use Rattle.thread_play.proofs.Naming.{call_named, kept_then}
use Rattle.thread_play.proofs.named.name_all.Goals as goal

pub loop-i-init : goal.loop-i-init
loop-i-init c = record {
  seen = c.requires;
  kept = λ key h. h;
  named = λ i call low there. absurd (omega arith);
}

pub loop-i-preserved : goal.loop-i-preserved
loop-i-preserved c =
    let l = c.loop-i in
    let ens = c.in_ok-name.ensures in
    record {
      seen = ens.seen;
      kept = kept_then c.args.keys.now.items l.keys.items c.name.new.keys.items l.invariant.kept ens.kept;
      named = call_named c.args.calls.now.items l.i l.keys.items c.name.new.keys.items c.get.result c.key.result l.invariant.named ens.kept c.get.ensures c.key.ensures ens.named;
    }

pub returns-clause-named : goal.returns-clause-named
returns-clause-named c =
    let l = c.loop-i in
    λ i call there.
    let within = slice_get_within c.args.calls.now.items i call there in
    let past = c.loop-i-test.false in
    let low = l.auto.i-end in
    let long = c.len-i-end.ensures.value in
    l.invariant.named i call (omega arith) there
