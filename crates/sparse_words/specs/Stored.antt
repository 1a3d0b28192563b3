-- The words of chunks, by address.
use Rattle.std.specs.Prelude.{ℕ, ◌/◌, ◌%◌, slice_get}
use Rattle.sparse_words.specs.declared.chunks.Chunks.{Chunks}
use Rattle.sparse_words.specs.Chunks.{chunk_word}

-- the word at an address
abbrev pub word_of : Chunks → ℕ → ℕ
word_of c at = chunk_word (slice_get c.chunks.items (at / 8192)) (at % 8192)
