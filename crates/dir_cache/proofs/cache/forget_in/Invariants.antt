use Rattle.std.proofs.Common.{◌≡◌, map, ◌++◌, take, drop}
use Rattle.dir_cache.specs.Cached.{unless_names, entry_in}
use Rattle.dir_cache.proofs.cache.forget_in.Given as goal

-- the entries of the words before the index have changed, the others not
abbrev pub invariant-loop-word : goal.invariant-loop-word
invariant-loop-word l = map entry_in l.words ≡ map (unless_names l.table) (take l.word-index (map entry_in l.fn.words)) ++ drop l.word-index (map entry_in l.fn.words)
