use Rattle.std.proofs.Common.{◌≡◌, ◌∙◌, sym, subst}
use Rattle.std.specs.Prelude.{Some, slice_get, length, ◌<◌}
use Rattle.key_hash.specs.Placing.{placed}
use Rattle.map_model.specs.declared.plans.Plan.{Plan}
use Rattle.race_laws.specs.Setting.{Setting}
use Rattle.verb_core.specs.declared.player.Player.{Player}
use Rattle.verb_core.specs.Play.{Play, outstanding_of}
use Rattle.verb_core.proofs.Ready.{there_at, one_player}
use Rattle.verb_core.proofs.Outstanding.{settled_at, outstanding_some}
use Rattle.verb_core.proofs.any_world.AnyWorld.outstanding.Goals as goal

pub outstanding-requires : goal.outstanding-requires
outstanding-requires g c =
    let s : Setting = record { geometry = c.self.inside.node.log.geometry; listed = g.P.Placer.listed c.self.inside.placer } in
    let low : c.args.client < length c.self.inside.players.items = subst (λ (w : Play g.row.M.Denot). c.args.client < length w.players) (sym c.self.view_is) c.requires in
    let there = there_at c.self.inside.players.items c.args.client c.index-player.result.now low c.index-player.ensures in
    record { settled = settled_at g.M.Playable.kind s c.self.inside.plans.items c.self.inside.node.log.entries c.self.inside.players.items c.self.inside.records.items c.args.client c.index-player.result.now c.in-Some.under_way c.self.invariant.kept there c.in-Some.is }

pub returns-in-Some : goal.returns-in-Some
returns-in-Some g c =
    let low : c.args.client < length c.self.inside.players.items = subst (λ (w : Play g.row.M.Denot). c.args.client < length w.players) (sym c.self.view_is) c.requires in
    let there = there_at c.self.inside.players.items c.args.client c.index-player.result.now low c.index-player.ensures in
    subst (λ (w : Play g.row.M.Denot). (plan : Plan) (p : Player g.row.M.Denot) → slice_get w.plans c.args.client ≡ Some plan → slice_get w.players c.args.client ≡ Some p → c.outstanding.result ≡ outstanding_of g.M.Playable.kind (placed w.setting.listed) plan p) c.self.view_is
    (λ plan p pl th.
    let same = one_player c.index-player.result.now p (sym there ∙ th) in
    let hash = placed (g.P.Placer.listed c.self.inside.placer) in
    subst (λ (x : Player g.row.M.Denot). c.outstanding.result ≡ outstanding_of g.M.Playable.kind hash plan x) same
    (outstanding_some g.M.Playable.kind hash plan c.index-player.result.now c.in-Some.under_way c.outstanding.result c.in-Some.is (c.outstanding.ensures hash)))
