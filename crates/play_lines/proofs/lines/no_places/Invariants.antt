use Rattle.std.proofs.Common.{◌≤◌, ◌-◌, length}
use Rattle.play_lines.specs.PlayLines.{AreEmpty}
use Rattle.play_lines.proofs.lines.no_places.Given as goal

-- the lists so far, none of which has a place
abbrev pub invariant-loop-alloc : goal.invariant-loop-alloc
invariant-loop-alloc l = record {
  number : length l.lists.items ≤ l.count;
  empty : AreEmpty l.lists.items;
}

abbrev pub decreases-loop-alloc : goal.decreases-loop-alloc
decreases-loop-alloc l = l.count - length l.lists.items
