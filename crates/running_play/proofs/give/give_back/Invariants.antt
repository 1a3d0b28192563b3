use Rattle.std.proofs.Common.{◌≡◌, ◌++◌, List, length, take, drop}
use Rattle.running_play.specs.declared.worker.Worked.{Worked}
use Rattle.running_play.specs.GivenBack.{AreNumbered, places_of}
use Rattle.running_play.proofs.give.give_back.Given as goal

abbrev pub invariant-loop-worked : goal.invariant-loop-worked
invariant-loop-worked l = record {
  home : l.seats.home ≡ l.initial.seats.home;
  numbered : AreNumbered l.initial.seats.home 0 l.all.items;
  given : (done : List Worked) × (l.initial.all.items ≡ l.all.items ++ done) × (l.seats.places ≡ take (length l.all.items) l.initial.seats.places ++ (places_of done ++ drop (length l.initial.all.items) l.initial.seats.places));
}

abbrev pub decreases-loop-worked : goal.decreases-loop-worked
decreases-loop-worked l = length l.all.items
