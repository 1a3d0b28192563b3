use Rattle.std.proofs.Common.{◌≡◌}
use Rattle.block_cache.proofs.EntryLemmas.{IsFresh}
use Rattle.block_cache.proofs.recent.fill.Given as goal

abbrev pub invariant-loop-key : goal.invariant-loop-key
invariant-loop-key l = record { fresh : IsFresh l.key l.entries.entries; cap : l.entries.cap ≡ l.blocks }
