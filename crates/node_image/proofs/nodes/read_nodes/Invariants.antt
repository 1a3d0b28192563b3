use Rattle.image_audit.specs.Shape.{lists_of}
use Rattle.node_image.proofs.NodeLists.{NodesSoFar}
use Rattle.node_image.proofs.nodes.read_nodes.Given as goal

abbrev pub invariant-loop-node : goal.invariant-loop-node
invariant-loop-node l = NodesSoFar l.geometry l.numbers (lists_of l.nodes.items) l.node l.at l.longest
