use Rattle.std.proofs.Common.{◌≡◌, ◌+◌, ◌++◌, take}
use Rattle.std.specs.Prelude.{vec_len, vec_capacity}
use Rattle.map_model.proofs.nexts.Nexts.push_to.Given as goal

-- the numbers so far stand behind the words, and took room that there was
abbrev pub invariant-loop-i : goal.invariant-loop-i
invariant-loop-i l = record {
  items : l.words.items ≡ l.initial.words.items ++ take l.i l.self;
  capacity : vec_capacity l.words ≡ vec_capacity l.initial.words;
  len : vec_len l.words ≡ vec_len l.initial.words + l.i;
}
