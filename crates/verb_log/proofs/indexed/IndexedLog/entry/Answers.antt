use Rattle.verb_log.proofs.Positions.{WellMade-at}
use Rattle.verb_log.proofs.indexed.IndexedLog.entry.Goals as goal

pub returns-clause-within : goal.returns-clause-within
returns-clause-within c =
    rw (← c.self.view_is)
    ((WellMade-at c.self.inside.geometry c.self.inside.entries.now c.args.n c.entry_of.result c.entry_of.ensures c.self.invariant.0).within)
