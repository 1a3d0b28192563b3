use Rattle.std.proofs.Common.{List, length, sym, subst}
use Rattle.map_model.specs.declared.plans.Item.{Item}
use Rattle.verb_core.specs.Machine.{call_kind}
use Rattle.verb_core.specs.Schedules.{Plays}
use Rattle.race_play.proofs.Beginning.{items-for}
use Rattle.race_play.proofs.played.play.Goals as goal

pub run-requires : goal.run-requires
run-requires c =
    items-for (length c.args.script.now.content.clients) (length c.in_ok-world.world.players) c.args.script.now.content.schedules c.in_ok-items.items.items (sym c.in_ok-world.ensures.players.many) c.in_ok-items.ensures c.body.ensures.items

pub returns : goal.returns
returns c =
    let ran = c.in_ok-run.ensures.played in
    record {
      begun = c.in_ok-world.world;
      begins = c.in_ok-world.ensures;
      events = ran.0;
      plays = subst (λ (items : List Item). Plays call_kind c.in_ok-world.world items ran.0 c.run.new.world) c.in_ok-items.ensures ran.1;
      firsts = ran.2;
      legal = c.run.ensures.legal;
    }
