-- The words of a block that were read so far.
use Rattle.std.specs.Prelude.{ℕ, List, take}
use Rattle.scan_pass.specs.declared.block_words.BlockWords.{BlockWords}

abbrev pub words_of : BlockWords → List ℕ
words_of b = take b.len b.words
