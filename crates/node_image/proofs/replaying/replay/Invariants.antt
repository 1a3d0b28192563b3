use Rattle.std.proofs.Common.{◌≡◌, length}
use Rattle.node_image.proofs.WordRuns.{Replayed}
use Rattle.node_image.proofs.replaying.replay.Given as goal

abbrev pub invariant-loop-n : goal.invariant-loop-n
invariant-loop-n l = record {
  words : Replayed l.log.geometry l.log.entries l.n l.start l.words;
  same : length l.words ≡ length l.initial.words;
}
