use Rattle.std.proofs.Common.{◌≡◌, ◌<◌, ◌+◌, length, sym, subst, ◌∙◌, arith}
use Rattle.std.specs.Prelude.{Some, None, slice_get}
use Rattle.race_laws.specs.Setting.{Setting}
use Rattle.verb_core.specs.declared.player.Player.{Player}
use Rattle.verb_core.specs.Play.{Play, unfinished_of}
use Rattle.verb_core.proofs.Ready.{there_at}
use Rattle.verb_core.proofs.Outstanding.{answered_few, unfinished_some, unfinished_none}
use Rattle.verb_core.proofs.any_world.AnyWorld.unfinished.Goals as goal

pub overflow_add-result : goal.overflow_add-result
overflow_add-result g c =
    let s : Setting = record { geometry = c.self.inside.node.log.geometry; listed = g.P.Placer.listed c.self.inside.placer } in
    let low : c.args.client < length c.self.inside.players.items = subst (λ (w : Play g.row.M.Denot). c.args.client < length w.players) (sym c.self.view_is) c.requires in
    let there = there_at c.self.inside.players.items c.args.client c.index-player.result.now low c.index-player.ensures in
    let h = answered_few g.M.Playable.kind s c.self.inside.plans.items c.self.inside.node.log.entries c.self.inside.players.items c.self.inside.records.items c.args.client c.index-player.result.now c.self.invariant.kept there in
    omega arith

pub returns-in-Some : goal.returns-in-Some
returns-in-Some g c =
    let low : c.args.client < length c.self.inside.players.items = subst (λ (w : Play g.row.M.Denot). c.args.client < length w.players) (sym c.self.view_is) c.requires in
    let there = there_at c.self.inside.players.items c.args.client c.index-player.result.now low c.index-player.ensures in
    subst (λ (w : Play g.row.M.Denot). (p : Player g.row.M.Denot) → slice_get w.players c.args.client ≡ Some p → Some (c.index-player.result.now.answered + 1) ≡ unfinished_of p) c.self.view_is
    (λ p th. unfinished_some c.index-player.result.now p c.in-Some.field-0 (sym there ∙ th) c.in-Some.is)

pub returns-in-None : goal.returns-in-None
returns-in-None g c =
    let low : c.args.client < length c.self.inside.players.items = subst (λ (w : Play g.row.M.Denot). c.args.client < length w.players) (sym c.self.view_is) c.requires in
    let there = there_at c.self.inside.players.items c.args.client c.index-player.result.now low c.index-player.ensures in
    subst (λ (w : Play g.row.M.Denot). (p : Player g.row.M.Denot) → slice_get w.players c.args.client ≡ Some p → None ≡ unfinished_of p) c.self.view_is
    (λ p th. unfinished_none c.index-player.result.now p (sym there ∙ th) c.in-None.is)
