use Rattle.std.proofs.Common.{◌≡◌, ◌<◌, ℕ}
use Rattle.std.specs.Prelude.{slice_index_or}
use Rattle.verbs.specs.Logs.{Begins, Longer}
use Rattle.race_laws.specs.Legal.{MayFollow}
use Rattle.running_play.specs.declared.worker.Worked.{Worked}
use Rattle.running_play.proofs.observe.meet_all.Given as goal

abbrev pub invariant-loop-i : goal.invariant-loop-i
invariant-loop-i g l = record {
  same : l.all.items ≡ l.initial.all.items;
  home : l.node.home ≡ l.initial.node.home;
  client : l.node.client ≡ l.initial.node.client;
  trace : l.node.trace ≡ l.initial.node.trace;
  met : (k : ℕ) (d : Worked) → k < l.i → Begins (slice_index_or l.initial.all.items k d).seat.front l.node.front;
  only : Longer (MayFollow l.initial.node.home.setting) l.initial.node.client l.initial.node.front l.node.front;
}
