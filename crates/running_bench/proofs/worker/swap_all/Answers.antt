use Rattle.std.proofs.Common.{◌<◌, ◌+◌, ◌≤◌, sym, subst, arith}
use Rattle.running_bench.proofs.Takes.{next_low, take_allowed}
use Rattle.running_bench.proofs.worker.swap_all.Goals as goal

pub read-next-requires-clause-place : goal.read-next-requires-clause-place
read-next-requires-clause-place c = next_low c.args.node.now.home.setting _ _ c.requires.low c.requires.starts

pub swap-found-requires-clause-place : goal.swap-found-requires-clause-place
swap-found-requires-clause-place c = next_low c.loop.node.home.setting _ _ c.loop.invariant.0 c.loop.invariant.1

pub swap-found-requires-clause-rule : goal.swap-found-requires-clause-rule
swap-found-requires-clause-rule c =
    let inv = c.loop.invariant in
    let end = inv.2 in
    let low = c.if-next-end.false in
    let more = c.if-end-next-lt2.false in
    take_allowed c.loop.node.home.setting c.loop.node.client _ c.loop.next c.args.at c.loop.node.front inv.1 inv.0 (omega arith)
