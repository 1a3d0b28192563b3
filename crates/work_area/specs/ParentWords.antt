-- The words of the block that the parent's place names, as far as they were read.
use Rattle.std.specs.Prelude.{ℕ, List, take}
use Rattle.work_area.specs.declared.parent_words.ParentWords.{ParentWords}

abbrev pub words_of : ParentWords → List ℕ
words_of b = take b.len b.words
