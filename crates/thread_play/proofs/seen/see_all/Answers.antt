use Rattle.std.proofs.Common.{Ok, Err, Result, IfOk}
use Rattle.thread_play.proofs.Learning.{has_seen}
use Rattle.thread_play.proofs.seen.see_all.Goals as goal

if_ok : {A E : Type 0} (P Q : A → Type 0) (r : Result A E) → ((a : A) → P a → Q a) → IfOk r P → IfOk r Q
if_ok P Q (Ok a) f h = f a h
if_ok P Q (Err e) f h = h

pub returns-clause-seen : goal.returns-clause-seen
returns-clause-seen c =
    let met = c.meet_all.ensures in
    if_ok _ _ c.look.result
    (λ seen x.
    has_seen c.args.memory.now c.args.seat c.of-node.result c.meet_all.new.node c.leave.result c.args.all.now.items _ c.args.keys.now _ x.0 seen.seat seen.map seen.next
    c.of-node.ensures.seat c.leave.ensures c.requires.home met.home met.client c.args.all.now.ok.0 met.met met.only x.1 x.2)
    c.look.ensures
