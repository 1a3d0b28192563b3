use Rattle.std.proofs.Common.{◌≡◌, ◌*◌, ◌≤◌, length, take}
use Rattle.node_image.specs.Numbers.{entries_of}
use Rattle.node_image.proofs.counting.entries_count.Given as goal

abbrev pub invariant-loop-i : goal.invariant-loop-i
invariant-loop-i l = record {
  count : l.count ≡ length (entries_of (take l.i l.pairs));
  most : l.count ≤ 10 * l.i;
}
