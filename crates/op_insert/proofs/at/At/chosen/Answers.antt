use Rattle.op_insert.specs.Rest.{inserting}
use Rattle.op_insert.proofs.Choices.{place-low}
use Rattle.op_insert.proofs.at.At.chosen.Goals as goal

pub returns-clause-fits : goal.returns-clause-fits
returns-clause-fits c = (c.requires.asks.0, c.requires.asks.1, c.requires.index, place-low (inserting c.args.work.now) c.args.index c.requires.index)
