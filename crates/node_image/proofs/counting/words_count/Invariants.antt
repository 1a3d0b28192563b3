use Rattle.std.proofs.Common.{◌≡◌, ◌*◌, ◌^◌, ◌≤◌, length, take}
use Rattle.image_audit.specs.Shape.{lists_of}
use Rattle.node_image.specs.Numbers.{words_of_nodes}
use Rattle.node_image.proofs.counting.words_count.Given as goal

abbrev pub invariant-loop-k : goal.invariant-loop-k
invariant-loop-k l = record {
  count : l.count ≡ length (words_of_nodes (take l.k (lists_of l.image.nodes.items)));
  most : l.count ≤ l.k * 2 ^ 24;
}
