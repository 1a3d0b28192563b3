use Rattle.std.proofs.Common.{◌≡◌, ◌≤◌, reverse, take, length}
use Rattle.verb_log.specs.Tables.{word_at}
use Rattle.verb_log.proofs.log.Log.word.Given as goal

-- no entry from n on stands at the address
abbrev pub invariant-loop-n : goal.invariant-loop-n
invariant-loop-n l = (l.n ≤ length l.self-inside.entries.items) × (word_at l.self-inside.geometry (reverse l.self-inside.entries.items) l.at ≡ word_at l.self-inside.geometry (reverse (take l.n l.self-inside.entries.items)) l.at)
