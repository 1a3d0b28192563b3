use Rattle.std.proofs.Common.{◌∙◌, sym, inl, inr, arith}
use Rattle.node_words.proofs.FirstTables.{cell_index}
use Rattle.node_words.proofs.OpeningWords.{opening_outside, opening_among}
use Rattle.node_words.proofs.geometry.Geometry.opening_word.Goals.{then-at-tables-via-then-at-tables, then-at-tables-via-else-at-tables+then-first_free-at}
use Rattle.node_words.proofs.geometry.Geometry.opening_word.Goals as goal

pub returns-then-at-tables : goal.returns-then-at-tables
returns-then-at-tables c =
    c.word_outside.ensures ∙ sym (opening_outside c.args.self.now c.args.at
    (elim c.then-at-tables.branch [
      | then-at-tables-via-then-at-tables w ↦ inl (omega arith)
      | then-at-tables-via-else-at-tables+then-first_free-at w ↦ inr (omega arith)
    ]))

pub word_inside-requires-clause-index : goal.word_inside-requires-clause-index
word_inside-requires-clause-index c =
    rw (c.first_table_at-tables.ensures.at, c.table_words-words.ensures) (cell_index c.args.self.now c.args.at (omega arith) (omega arith))

pub returns : goal.returns
returns c = let e = opening_among c.args.self.now c.args.at (omega arith) (omega arith) in cc
