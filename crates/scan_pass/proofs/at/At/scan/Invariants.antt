use Rattle.std.proofs.Common.{◌≡◌, ◌-◌}
use Rattle.scan_pass.specs.Seen.{seen}
use Rattle.scan_pass.specs.Rest.{onward}
use Rattle.scan_pass.proofs.at.At.scan.Given as goal

-- what is left is as it was
abbrev pub invariant-loop-scan : goal.invariant-loop-scan
invariant-loop-scan l = record {
  follow : l.scan.follow ≡ l.initial.scan.follow;
  rest : onward l.task.job l.scan.index l.scan.follow (seen l.scan) ≡ onward l.task.job l.initial.scan.index l.initial.scan.follow (seen l.initial.scan);
}

abbrev pub decreases-loop-scan : goal.decreases-loop-scan
decreases-loop-scan l = 28 - l.scan.index
