use Rattle.std.proofs.Common.{◌≡◌, ◌++◌, take}
use Rattle.node_image.specs.Numbers.{AreKeys, entries_of}
use Rattle.node_image.proofs.writing.push_entries.Given as goal

abbrev pub invariant-loop-i : goal.invariant-loop-i
invariant-loop-i l = record {
  numbers : l.numbers.items ≡ l.initial.numbers.items ++ entries_of (take l.i l.pairs);
  keys : AreKeys (take l.i l.pairs);
}
