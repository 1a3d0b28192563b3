use Rattle.std.proofs.Common.{◌≡◌}
use Rattle.block_cache.specs.Recent.{key_holding}
use Rattle.block_cache.proofs.recent.key_holding.Given as goal

abbrev pub invariant-loop-key : goal.invariant-loop-key
invariant-loop-key l =
    (goal.iterator-loop-key).can_next l.key-iterator ×
    (goal.iterator-loop-key).is_finite l.key-iterator ×
    (key_holding l.block l.entries.entries ≡ key_holding l.block l.key-iterator)
