use Rattle.std.proofs.Common.{◌≡◌, ◌+◌, ◌<◌}
use Rattle.std.specs.Prelude.{drop}
use Rattle.batch_pass.specs.Waiting.{opens, nth_open}
use Rattle.batch_pass.proofs.outstanding.Outstanding.place.Given as goal

-- the read that is looked for is the one of number `left` from here on
abbrev pub invariant-loop-place : goal.invariant-loop-place
invariant-loop-place l = record {
  place : l.place + nth_open (drop l.place l.self.done) l.left ≡ nth_open l.self.done l.i;
  some : l.left < opens (drop l.place l.self.done);
}
