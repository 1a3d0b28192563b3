use Rattle.std.proofs.Common.{arith}
use Rattle.block_cache.proofs.EntryLemmas.{none_packed}
use Rattle.block_cache.proofs.recent.RecentBlocks.make.Goals as goal

pub invariant_of-result : goal.invariant_of-result
invariant_of-result c = (none_packed c.fill.new.entries.entries c.in_ok-fill.ensures.kept, let long = c.in_ok-fill.ensures.len in omega arith)
