use Rattle.std.proofs.Common.{◌≡◌, reverse, take}
use Rattle.verb_log.specs.Standings.{standing_of}
use Rattle.verb_log.proofs.log.Log.+standing.Given as goal

-- what the first k entries say of the address
abbrev pub invariant-loop-k : goal.invariant-loop-k
invariant-loop-k l = l.standing ≡ standing_of l.self.geometry (reverse (take l.k l.self.entries)) l.at

abbrev pub decreases-standing : goal.decreases-standing
decreases-standing l = l.n
