use Rattle.std.proofs.Common.{◌∙◌, sym, arith}
use Rattle.node_words.proofs.OpeningWords.{next_outside-0, next_outside, directory_outside}
use Rattle.node_words.proofs.geometry.Geometry.word_outside.Goals as goal

pub returns-in-Next-eq0 : goal.returns-in-Next-eq0
returns-in-Next-eq0 c = c.first_free.ensures ∙ sym (next_outside-0 c.args.self.now c.args.at c.in-Next-eq0.field-0 (sym c.in-Next-eq0.ensures.region) c.in-Next-eq0.field-0-test)

pub returns-in-Next : goal.returns-in-Next
returns-in-Next c = sym (next_outside c.args.self.now c.args.at c.in-Next.field-0 (sym c.in-Next.ensures.region) (c.in-Next.field-0-test).1)

pub returns-in-Directory : goal.returns-in-Directory
returns-in-Directory c = c.first_table.ensures ∙ sym (directory_outside c.args.self.now c.args.at c.in-Directory.index (sym c.in-Directory.ensures.region) (omega arith))
