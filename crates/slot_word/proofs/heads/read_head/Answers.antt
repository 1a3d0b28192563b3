use Rattle.std.proofs.Common.{◌≡◌, ◌%◌, arith, Some}
use Rattle.std.proofs.lemmas.Grind.{common_steps}
use Rattle.slot_word.specs.Heads.{head_of}
use Rattle.slot_word.proofs.HeadLaws.{reads-each, head_word-head_of}
use Rattle.slot_word.proofs.heads.read_head.Goals as goal

pub returns-then-depth-gt-GREATEST_DEPTH-clause-each : goal.returns-then-depth-gt-GREATEST_DEPTH-clause-each
unfolding head_of
returns-then-depth-gt-GREATEST_DEPTH-clause-each c = reads-each c.args.word _ (grind (arith, common_steps))

pub returns-in_err-state-clause-each : goal.returns-in_err-state-clause-each
unfolding head_of
returns-in_err-state-clause-each c = reads-each c.args.word _ (grind (arith, common_steps))

pub returns-clause-packed : goal.returns-clause-packed
unfolding head_of
returns-clause-packed c =
    let reads : head_of c.args.word ≡ Some (record { depth = c.args.word % 256; state = c.in_ok-state.state }) = grind (arith, common_steps) in
    head_word-head_of c.args.word _ reads

pub returns-clause-each : goal.returns-clause-each
unfolding head_of
returns-clause-each c = reads-each c.args.word _ (grind (arith, common_steps))
