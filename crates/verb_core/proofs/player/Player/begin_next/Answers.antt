use Rattle.std.proofs.Common.{refl}
use Rattle.std.specs.Prelude.{slice_get}
use Rattle.key_hash.specs.Placing.{placed}
use Rattle.verb_core.proofs.Stages.{next_begun}
use Rattle.verb_core.proofs.player.Player.begin_next.Goals as goal

pub returns-clause-open : goal.returns-clause-open
returns-clause-open g c =
    let hash = placed (g.P.Placer.listed c.args.placer.now) in
    let p = c.args.self.now in
    (c.begin.result, refl, c.begin.ensures.settled, next_begun g.M.Playable.kind hash c.args.lo p.state p.under_way (slice_get c.args.calls.now.items p.answered) c.get-call.result c.begin.result c.requires.none c.get-call.ensures c.begin.ensures.going)
