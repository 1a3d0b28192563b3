use Rattle.std.proofs.Common.{arith}
use Rattle.std.proofs.lemmas.Bool.{eq-eqb, ne_eqb}
use Rattle.spelling.proofs.Cuts.{parts_at-cut, parts_at-whole, none-more}
use Rattle.spelling.proofs.word.cut.Goals as goal

pub returns-then-bytes-len-clause-parts : goal.returns-then-bytes-len-clause-parts
returns-then-bytes-len-clause-parts c = parts_at-cut c.args.at c.args.bytes.now c.loop-len.len (omega arith) c.loop-len.invariant.other (eq-eqb _ _ c.if-bytes-len.true)

pub loop-len-preserved : goal.loop-len-preserved
loop-len-preserved c = record {
  within = omega arith;
  other = none-more c.args.at c.args.bytes.now c.loop-len.len (omega arith) c.loop-len.invariant.other (ne_eqb _ _ c.if-bytes-len.false);
}

pub returns-clause-parts : goal.returns-clause-parts
returns-clause-parts c = parts_at-whole c.args.at c.args.bytes.now c.loop-len.len (omega arith) c.loop-len.invariant.other
