use Rattle.std.proofs.Common.{◌≡◌}
use Rattle.running_play.proofs.Dealing.{Dealing}
use Rattle.running_play.proofs.deal.deal.Given as goal

abbrev pub invariant-loop-client : goal.invariant-loop-client
invariant-loop-client l = record {
  home : l.seats.home ≡ l.initial.seats.home;
  dealing : Dealing l.initial.seats.home l.clients l._client l.seats.places l.dealt.items;
}
