use Rattle.std.proofs.Common.{◌≡◌, take}
use Rattle.map_model.proofs.nexts.Nexts.of_words.Given as goal

-- the words so far
abbrev pub invariant-loop-i : goal.invariant-loop-i
invariant-loop-i l = l.next ≡ take l.i l.words
