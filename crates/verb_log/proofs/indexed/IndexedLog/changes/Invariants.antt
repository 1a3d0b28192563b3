use Rattle.std.proofs.Common.{◌≡◌, reverse, take}
use Rattle.verb_log.specs.Changes.{changes}
use Rattle.verb_log.specs.Replay.{replay}
use Rattle.verb_log.proofs.indexed.IndexedLog.changes.Given as goal

-- the words and the changes of the first n entries
abbrev pub invariant-loop-n : goal.invariant-loop-n
invariant-loop-n l = (l.words.items ≡ replay l.self.geometry (take l.n l.self.entries)) × (l.changes.items ≡ changes l.self.geometry (reverse (take l.n l.self.entries)))
