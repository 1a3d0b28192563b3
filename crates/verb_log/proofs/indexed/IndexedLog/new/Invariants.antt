use Rattle.std.proofs.Common.{reverse, take}
use Rattle.verb_log.specs.Indexed.{Tells}
use Rattle.verb_log.proofs.indexed.IndexedLog.new.Given as goal

-- the index tells of the first n entries
abbrev pub invariant-loop-n : goal.invariant-loop-n
invariant-loop-n l = Tells l.geometry (reverse (take l.n l.entries)) l.index
