use Rattle.std.proofs.Common.{◌≡◌, ◌+◌, ◌++◌}
use Rattle.std.specs.Prelude.{vec_len, vec_capacity}
use Rattle.kv_block.specs.Packing.{words_of}
use Rattle.kv_block.proofs.block.push_words.Given as goal

abbrev pub invariant-loop-i : goal.invariant-loop-i
invariant-loop-i l = record {
  items : l.words.items ≡ l.initial.words.items ++ words_of l.i l.bytes;
  capacity : vec_capacity l.words ≡ vec_capacity l.initial.words;
  len : vec_len l.words ≡ vec_len l.initial.words + l.i;
}
