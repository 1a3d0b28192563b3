use Rattle.std.proofs.Common.{◌≡◌}
use Rattle.verbs.specs.Logs.{MayStand}
use Rattle.race_laws.specs.Legal.{MayFollow}
use Rattle.world_texts.specs.Fits.{Fits}
use Rattle.running_play.proofs.Working.{Living}
use Rattle.running_play.proofs.worker.do_calls.Given as goal

abbrev pub invariant-loop-i : goal.invariant-loop-i
invariant-loop-i g l = record {
  home : l.node.home ≡ l.initial.node.home;
  legal : MayStand (MayFollow l.node.home.setting) l.node.front;
  fits : Fits l.node.home.setting l.node.front l.node.client l.state;
  living : Living l.calls.items l.fn.stop l.left l.initial.node l.initial.state l.i l.node l.state l.lines.items;
}
