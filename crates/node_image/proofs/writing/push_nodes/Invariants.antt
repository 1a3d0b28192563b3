use Rattle.std.proofs.Common.{◌≡◌, ◌++◌, take}
use Rattle.image_audit.specs.Shape.{lists_of}
use Rattle.node_image.specs.Numbers.{words_of_nodes}
use Rattle.node_image.proofs.writing.push_nodes.Given as goal

abbrev pub invariant-loop-k : goal.invariant-loop-k
invariant-loop-k l = l.numbers.items ≡ l.initial.numbers.items ++ words_of_nodes (take l.k (lists_of l.nodes))
