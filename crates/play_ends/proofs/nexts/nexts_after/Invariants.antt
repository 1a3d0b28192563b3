use Rattle.std.proofs.Common.{◌≡◌, length}
use Rattle.play_ends.specs.Nexts.{nexts_of}
use Rattle.play_ends.proofs.nexts.nexts_after.Given as goal

-- the next words of the nodes so far
abbrev pub invariant-loop-node : goal.invariant-loop-node
invariant-loop-node l = record {
  nexts : l.nexts ≡ nexts_of l.node l.log.geometry l.log.entries;
  number : length l.nexts ≡ l.node;
}
