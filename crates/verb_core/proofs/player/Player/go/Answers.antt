use Rattle.std.proofs.Common.{sym, subst, refl, ◌∙◌}
use Rattle.key_hash.specs.Placing.{placed}
use Rattle.verb_core.specs.declared.player.Open.{Open}
use Rattle.verb_core.specs.Going.{Went}
use Rattle.verb_core.proofs.Ready.{one_open}
use Rattle.verb_core.proofs.player.Player.go.Goals as goal

pub returns-clause-went : goal.returns-clause-went
returns-clause-went g c = λ o e.
    let hash = placed (g.P.Placer.listed c.args.placer.now) in
    (c.go.new.self, refl, subst (λ (x : Open g.row.M.Denot). Went g.M.Playable.kind hash c.args.node.now.log.geometry c.args.node.now.client c.args.node.now.log.entries c.args.choice x c.go.new.node.log.entries c.go.new.self c.go.result) (one_open c.in-Some.under_way o (sym c.in-Some.is ∙ e)) c.go.ensures.went)
