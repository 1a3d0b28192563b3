use Rattle.std.proofs.Common.{sym, refl}
use Rattle.std.specs.Prelude.{slice_get}
use Rattle.key_hash.specs.Placing.{placed}
use Rattle.verb_core.proofs.Stages.{an_answer, same_begun}
use Rattle.verb_core.proofs.player.Player.begin.Goals as goal

pub returns-else-is_none-clause-open : goal.returns-else-is_none-clause-open
returns-else-is_none-clause-open g c =
    let hash = placed (g.P.Placer.listed c.args.placer.now) in
    let p = c.args.self.now in
    let o = an_answer p.under_way (sym (c.if-is_none.ensures)) in
    (o.0, o.1, c.requires.settled o.0 o.1, same_begun g.M.Playable.kind hash c.args.lo p.state p.under_way (slice_get c.args.calls.now.items p.answered) o.0 o.1)
