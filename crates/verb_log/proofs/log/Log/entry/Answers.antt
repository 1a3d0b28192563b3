use Rattle.verb_log.proofs.Positions.{entry_within}
use Rattle.verb_log.proofs.log.Log.entry.Goals as goal

pub returns-clause-within : goal.returns-clause-within
returns-clause-within c =
    rw (← c.self.view_is)
    (entry_within c.self.inside.geometry c.self.inside.entries.items c.args.n _ c.self.invariant (rw (← c.self.view_is) at c.requires) c.index.ensures)
