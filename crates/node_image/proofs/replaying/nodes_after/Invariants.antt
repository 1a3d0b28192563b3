use Rattle.image_laws.specs.Laws.{words_after}
use Rattle.image_audit.specs.Shape.{lists_of}
use Rattle.node_image.proofs.NodeParts.{PartsSoFar}
use Rattle.node_image.proofs.replaying.nodes_after.Given as goal

abbrev pub invariant-loop-node : goal.invariant-loop-node
invariant-loop-node l = PartsSoFar l.log.geometry (words_after l.log.geometry l.log.entries) (lists_of l.nodes.items) l.node l.longest
