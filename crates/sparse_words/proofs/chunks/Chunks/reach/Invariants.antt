use Rattle.std.proofs.Common.{◌≡◌, ◌≤◌, ◌-◌, ◌+◌, ℕ, vec_len, vec_capacity}
use Rattle.sparse_words.specs.Stored.{word_of}
use Rattle.sparse_words.proofs.chunks.Chunks.reach.Given as goal

-- the words are as they were, and there is room for the chunks up to this one
abbrev pub invariant-loop-self : goal.invariant-loop-self
invariant-loop-self l = record {
  words : (a : ℕ) → word_of l.self a ≡ word_of l.fn.self a;
  capacity : vec_capacity l.fn.self.chunks ≤ vec_capacity l.self.chunks;
  spare : l.self.spare ≡ l.fn.self.spare;
}

abbrev pub decreases-loop-self : goal.decreases-loop-self
decreases-loop-self l = l.i + 1 - vec_len l.self.chunks
