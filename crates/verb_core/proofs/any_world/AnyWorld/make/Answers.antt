use Rattle.std.proofs.Common.{List, [], sym, subst}
use Rattle.std.specs.Prelude.{None}
use Rattle.kv_block.specs.declared.changes.Change.{Change}
use Rattle.map_model.specs.declared.records.Record.{Record}
use Rattle.verb_log.specs.declared.entry.Entry.{Entry}
use Rattle.race_laws.specs.Setting.{Setting}
use Rattle.node_words.specs.declared.geometry.Geometry.{Geometry}
use Rattle.verb_core.specs.Kept.{IsWorld}
use Rattle.verb_core.specs.Play.{AreFresh}
use Rattle.verb_core.proofs.Worlds.{fresh_world}
use Rattle.verb_core.proofs.any_world.AnyWorld.make.Goals as goal

pub invariant_of-result : goal.invariant_of-result
invariant_of-result g c =
    let s : Setting = record { geometry = c.in_ok-node.node.log.geometry; listed = g.P.Placer.listed c.args.placer } in
    subst (λ (x : List Entry). IsWorld g.M.Playable.kind s c.args.plans.items x c.in_ok-players.players.items c.new-2.result.items c.new.result None) (sym c.in_ok-node.ensures.log)
    (subst (λ (x : List Record). IsWorld g.M.Playable.kind s c.args.plans.items [] c.in_ok-players.players.items x c.new.result None) (sym c.new-2.ensures)
    (subst (λ (x : List Change). IsWorld g.M.Playable.kind s c.args.plans.items [] c.in_ok-players.players.items [] x None) (sym c.new.ensures)
    (fresh_world g.M.Playable.kind c.law_safe.ensures s c.args.tries c.len.result c.args.plans.items c.in_ok-players.players.items
    (subst (λ (x : Geometry). AreFresh x c.args.tries c.len.result c.in_ok-players.players.items) (sym c.in_ok-node.ensures.geometry) c.in_ok-players.ensures)
    c.len.ensures c.requires.few c.requires.some c.requires.tries c.requires.short)))
