use Rattle.std.proofs.Common.{get_or}
use Rattle.std.proofs.lemmas.List.{get_or_default}
use Rattle.verb_log.proofs.Positions.{entry_within}
use Rattle.verb_log.proofs.indexed.IndexedLog.new.Goals as goal

pub tell-requires-clause-at : goal.tell-requires-clause-at
tell-requires-clause-at c =
    let e = get_or c.args.entries.now c.loop-n.n (record { client = 0; at = 0; old = 0; new = 0 }) in
    entry_within c.args.geometry.now c.args.entries.now c.loop-n.n e c.requires c.loop-n-test.true (get_or_default c.args.entries.now c.loop-n.n (record { client = 0; at = 0; old = 0; new = 0 }) e c.loop-n-test.true)
