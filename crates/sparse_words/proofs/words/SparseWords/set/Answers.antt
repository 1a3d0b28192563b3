use Rattle.std.proofs.Common.{vec_capacity, arith}
use Rattle.sparse_words.specs.Stored.{word_of}
use Rattle.sparse_words.proofs.Lists.{seen-len, seen-put, chunk-there}
use Rattle.sparse_words.proofs.words.SparseWords.set.Goals as goal

pub put-requires-clause-place : goal.put-requires-clause-place
put-requires-clause-place c =
    let s = c.self.inside in
    let n = seen-len s.len (word_of s.chunks) s.chunks.spare.items c.args.self.now c.self.view_is in
    let place = c.requires.place in
    chunk-there s.len c.args.at (vec_capacity s.chunks.chunks) (omega arith) c.self.invariant

pub returns-clause-items : goal.returns-clause-items
returns-clause-items c =
    let s = c.self.inside in
    seen-put s.len (word_of s.chunks) s.chunks.spare.items c.args.self.now c.self.view_is c.args.at c.args.word (word_of c.put.new.self) c.requires.place c.put.ensures.words
