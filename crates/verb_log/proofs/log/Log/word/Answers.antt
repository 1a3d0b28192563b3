use Rattle.verb_log.proofs.Looks.{found_word, unfound_word}
use Rattle.verb_log.proofs.log.Log.word.Goals as goal

pub returns-then-entry-at : goal.returns-then-entry-at
returns-then-entry-at c =
    rw (← c.self.view_is)
    (found_word c.self.inside.geometry c.self.inside.entries.items c.loop-n.n c.args.at _ (rw (← c.self.view_is) at c.requires) c.loop-n-test.true c.loop-n.invariant.0 c.index-entry.ensures c.if-entry-at.true c.loop-n.invariant.1)

pub returns : goal.returns
returns c =
    rw (← c.self.view_is)
    (unfound_word c.self.inside.geometry c.self.inside.entries.items c.loop-n.n c.args.at _ (rw (← c.self.view_is) at c.requires) c.loop-n-test.false c.opening_word.ensures c.loop-n.invariant.1)
