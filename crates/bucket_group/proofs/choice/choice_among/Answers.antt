use Rattle.bucket_group.proofs.ChoiceLaws.{first_is_choice, second_is_choice}
use Rattle.bucket_group.proofs.choice.choice_among.Goals as goal

pub returns-then-taken : goal.returns-then-taken
returns-then-taken c =
    first_is_choice c.args.candidates c.args.free.now c.second_combined-second.result.now c.taken.result c.taken-2.result c.first_of.result
    c.second_combined-second.ensures c.taken.ensures c.taken-2.ensures c.if-taken.true c.first_of.ensures

pub returns-else-taken : goal.returns-else-taken
returns-else-taken c =
    second_is_choice c.args.candidates c.args.free.now c.second_combined-second.result.now c.taken.result c.taken-2.result c.first_of-else-taken.result
    c.second_combined-second.ensures c.taken.ensures c.taken-2.ensures c.if-taken.false c.first_of-else-taken.ensures
