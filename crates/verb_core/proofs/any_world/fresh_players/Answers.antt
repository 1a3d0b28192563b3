use Rattle.std.proofs.Common.{sym, subst, ap, ◌+◌}
use Rattle.std.specs.Prelude.{List, None}
use Rattle.call_texts.specs.State.{State}
use Rattle.verb_core.specs.declared.player.Player.{Player}
use Rattle.verb_core.specs.Play.{AreFresh}
use Rattle.verb_core.proofs.Worlds.{fresh_more}
use Rattle.verb_core.proofs.any_world.fresh_players.Goals as goal

pub loop-client-preserved : goal.loop-client-preserved
loop-client-preserved g c =
    subst (λ (xs : List (Player g.row.M.Denot)). AreFresh c.args.geometry.now c.args.tries (c.loop-client.client + 1) xs) (sym c.in_ok-push.ensures.items)
    (fresh_more c.args.geometry.now c.args.tries c.loop-client.client c.loop-client.players.items (record { state = c.in_ok-state.state; answered = 0; verbs = 0; under_way = None })
    (ap (λ (x : State). let p : Player g.row.M.Denot = record { state = x; answered = 0; verbs = 0; under_way = None } in p) c.in_ok-state.ensures.state) c.loop-client.invariant)
