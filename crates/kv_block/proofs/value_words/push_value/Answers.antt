use Rattle.std.proofs.Common.{length, arith}
use Rattle.kv_block.specs.Packing.{words_for}
use Rattle.kv_block.proofs.Packed.{length-words_of}
use Rattle.kv_block.proofs.WordsOfBytes.{words_of-filled, two}
use Rattle.kv_block.proofs.value_words.push_value.Goals as goal

pub returns-clause-items : goal.returns-clause-items
returns-clause-items c =
    let v = words_of-filled c.words_for.result 1024 c.args.value.now in
    rw (
      c.push_words.ensures.items,
      c.push_reserved.ensures.items,
      c.padded.ensures.value,
      v,
      c.words_for.ensures,
      c.bytes-len.ensures.value,
    ) (two _ _ _)

pub returns-clause-most : goal.returns-clause-most
returns-clause-most c =
    let n = length-words_of (words_for (length c.args.value.now)) c.args.value.now in
    let l = c.bytes-len.ensures.len in
    omega (arith, n, l)
