use Rattle.std.proofs.Common.{◌≡◌, ◌-◌}
use Rattle.batch_pass.specs.Seen.{seen}
use Rattle.batch_pass.specs.Rest.{onward}
use Rattle.batch_pass.proofs.at.At.judge.Given as goal

-- what is left is as it was
abbrev pub invariant-loop-scan : goal.invariant-loop-scan
invariant-loop-scan l = record {
  rest : onward l.task.job l.scan.slots l.scan.index l.scan.follow (seen l.scan) ≡ onward l.task.job l.initial.scan.slots l.initial.scan.index l.initial.scan.follow (seen l.initial.scan);
}

abbrev pub decreases-loop-scan : goal.decreases-loop-scan
decreases-loop-scan l = 28 - l.scan.index
