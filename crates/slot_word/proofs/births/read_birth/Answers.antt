use Rattle.std.proofs.Common.{◌≡◌, ◌/◌, ◌%◌, arith, rules, Some}
use Rattle.std.proofs.lemmas.Grind.{common_steps}
use Rattle.slot_word.specs.Births.{birth_of}
use Rattle.slot_word.proofs.BirthLaws.{reads-each, birth_word-birth_of}
use Rattle.slot_word.proofs.births.read_birth.Goals as goal

pub returns-then-depth-gt-GREATEST_DEPTH-clause-each : goal.returns-then-depth-gt-GREATEST_DEPTH-clause-each
unfolding birth_of
returns-then-depth-gt-GREATEST_DEPTH-clause-each c = reads-each c.args.word _ (grind (arith, common_steps))

pub returns-clause-packed : goal.returns-clause-packed
unfolding birth_of
returns-clause-packed c =
    let reads : birth_of c.args.word ≡ Some (record { depth = c.args.word % 256; suffix = c.args.word / 256 % 65536; parent = c.args.word / 16777216 }) = grind (arith, common_steps) in
    birth_word-birth_of c.args.word _ (search rules) reads

pub returns-clause-each : goal.returns-clause-each
unfolding birth_of
returns-clause-each c = reads-each c.args.word _ (grind (arith, common_steps))
