use Rattle.std.proofs.Common.{◌≡◌, false}
use Rattle.std.specs.Prelude.{take, replicate}
use Rattle.batch_pass.proofs.outstanding.Outstanding.open.Given as goal

-- those before this place wait
abbrev pub invariant-loop-place : goal.invariant-loop-place
invariant-loop-place l = record {
  fresh : take l.place l.self.done ≡ replicate l.place false;
}
