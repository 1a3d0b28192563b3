use Rattle.sparse_words.specs.Stored.{word_of}
use Rattle.sparse_words.proofs.Lists.{seen-len}
use Rattle.sparse_words.proofs.words.SparseWords.len.Goals as goal

pub returns : goal.returns
returns c = seen-len c.self.inside.len (word_of c.self.inside.chunks) c.self.inside.chunks.spare.items c.args.self.now c.self.view_is
