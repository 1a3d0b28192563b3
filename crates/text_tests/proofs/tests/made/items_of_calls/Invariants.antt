use Rattle.std.proofs.Common.{◌≤◌, ◌-◌, length}
use Rattle.std.specs.List.{AllByRecursion}
use Rattle.script_value.specs.Valid.{IsItem}
use Rattle.text_tests.proofs.tests.made.items_of_calls.Given as goal

-- the items so far
abbrev pub invariant-loop-items : goal.invariant-loop-items
invariant-loop-items l = record {
  len : length l.items.items ≤ l.count;
  known : AllByRecursion (IsItem 1) l.items.items;
}

abbrev pub decreases-loop-items : goal.decreases-loop-items
decreases-loop-items l = l.count - length l.items.items
