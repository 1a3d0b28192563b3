-- Line 2, as the code holds it.
use Rattle.script_reader.specs.declared.table.SizeWords.{SizeWords}
use Rattle.script_reader.specs.declared.table.Sizes.{Sizes}
use Rattle.script_reader.specs.declared.reading.Head.{Head}
use Rattle.spelling.specs.Words.{parts_at}
use Rattle.script_value.specs.Content as content
use Rattle.script_reader.specs.Rules as rule

abbrev pub words_told : SizeWords → rule.SizeWords
words_told w = record { groups = w.groups.now; max_depth = w.max_depth.now; first_depth = w.first_depth.now; nodes = w.nodes.now; words = w.words.now; tries = w.tries.now }

abbrev pub numbers_told : Sizes → content.Sizes
numbers_told s = record { groups = s.groups; max_depth = s.max_depth; first_depth = s.first_depth; nodes = s.nodes; words = s.words; tries = s.tries }

-- the first two lines
abbrev pub head_told : Head → rule.Head
head_told h = record { version = h.version; sizes = content.sizes_of h.geometry h.tries; others = parts_at 10 h.rest.now }
