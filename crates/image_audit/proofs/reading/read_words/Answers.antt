use Rattle.std.proofs.Common.{arith}
use Rattle.image_audit.proofs.Slots.{read_more}
use Rattle.image_audit.proofs.reading.read_words.Goals as goal

pub loop-i-preserved : goal.loop-i-preserved
loop-i-preserved g c = read_more _ _ _ _ c.loop-i.i c.word.result c.loop-i.invariant (let a = c.loop-i-test.true in let b = c.requires.count in omega arith) c.in-Some.ensures.some.2 c.word.ensures
