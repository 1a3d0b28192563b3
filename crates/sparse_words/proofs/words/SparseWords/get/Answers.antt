use Rattle.std.proofs.Common.{◌∙◌}
use Rattle.sparse_words.specs.Stored.{word_of}
use Rattle.sparse_words.proofs.Lists.{seen-word}
use Rattle.sparse_words.proofs.words.SparseWords.get.Goals as goal

pub returns : goal.returns
returns c = c.word.ensures ∙ seen-word c.self.inside.len (word_of c.self.inside.chunks) c.self.inside.chunks.spare.items c.args.self.now c.self.view_is c.args.at c.requires
