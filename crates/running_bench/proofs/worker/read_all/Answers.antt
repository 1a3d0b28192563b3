use Rattle.std.proofs.Common.{◌<◌, sym, subst}
use Rattle.running_bench.proofs.Takes.{next_low}
use Rattle.running_bench.proofs.worker.read_all.Goals as goal

pub read-sum-requires-clause-place : goal.read-sum-requires-clause-place
read-sum-requires-clause-place c = next_low c.loop.node.home.setting _ _ c.loop.invariant.0 c.loop.invariant.1
