use Rattle.std.proofs.Common.{◌≡◌, ℕ, ◌+◌, ◌<◌, slice_index}
use Rattle.verbs.specs.Logs.{word}
use Rattle.block_cache.proofs.tests.stands.Given as goal

abbrev pub invariant-loop-i : goal.invariant-loop-i
invariant-loop-i l = (j : ℕ) → j < l.i → (l.at + j < l.log.geometry.words) × (word l.log.geometry l.log.entries (l.at + j) ≡ slice_index l.block j)
