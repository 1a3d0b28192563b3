use Rattle.std.proofs.Common.{length, ◌-◌, ◌≡◌, ◌≤◌, false, nat_eq, take}
use Rattle.std.specs.List.{All}
use Rattle.spelling.proofs.word.cut.Given as goal

-- no byte so far is the one that is looked for
abbrev pub invariant-loop-len : goal.invariant-loop-len
invariant-loop-len l = record { within : l.len ≤ length l.bytes; other : All (λ b. nat_eq b l.at ≡ false) (take l.len l.bytes) }

abbrev pub decreases-loop-len : goal.decreases-loop-len
decreases-loop-len l = length l.bytes - l.len
