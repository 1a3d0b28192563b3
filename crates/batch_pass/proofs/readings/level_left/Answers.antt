use Rattle.batch_pass.proofs.Levels.{level_left-answer, level_left-low}
use Rattle.batch_pass.proofs.readings.level_left.Goals as goal

pub returns-clause-value : goal.returns-clause-value
returns-clause-value c = level_left-answer c.args.hash c.args.birth_depth c.args.head.now c.leaves.result c.leaves.ensures

pub returns-clause-low : goal.returns-clause-low
returns-clause-low c = level_left-low c.args.hash c.args.birth_depth c.args.head.now c.leaves.result c.leaves.ensures
