-- Chunks of words.
use Rattle.std.specs.declared.alloc.Global.{Global}
use Rattle.std.specs.Prelude.{◌≡◌, ◌≤◌, ℕ, ◌%◌, Vec, [], length, Option, Some, None, slice_index}

abbrev pub IsZero : ℕ → Type 0
IsZero word = word ≡ 0

-- a chunk has 8,192 words, or none where nothing was put into it
abbrev pub IsChunk : Vec ℕ Global → Type 0
IsChunk chunk = (length chunk.items % 8192 ≡ 0) × (length chunk.items ≤ 8192)

abbrev pub IsEmpty : Vec ℕ Global → Type 0
IsEmpty chunk = chunk.items ≡ []

-- the word at a place of a chunk: 0 where there is no chunk, or nothing was put into it
abbrev pub chunk_word : Option (Vec ℕ Global) → ℕ → ℕ
chunk_word None place = 0
chunk_word (Some chunk) place = slice_index chunk.items place
