use Rattle.std.proofs.Common.{◌≡◌}
use Rattle.bucket_group.specs.ExitLevel.{exit_level}
use Rattle.bucket_group.proofs.exit.exit_level.Given as goal

-- no level before this one has its bit set
abbrev pub invariant-loop-level : goal.invariant-loop-level
invariant-loop-level l = exit_level l.hash l.level ≡ exit_level l.hash l.initial.birth_depth
