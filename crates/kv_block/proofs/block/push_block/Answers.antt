use Rattle.kv_block.specs.Packing.{packed}
use Rattle.kv_block.proofs.Packed.{packed_most}
use Rattle.kv_block.proofs.WordsOfBytes.{words_of-filled, three}
use Rattle.kv_block.proofs.block.push_block.Goals as goal

pub returns-clause-items : goal.returns-clause-items
unfolding packed
returns-clause-items c =
    let k = words_of-filled c.words_for.result 64 c.args.key.now in
    let v = words_of-filled c.words_for-2.result 1024 c.args.value.now in
    rw (
      c.push_words-2.ensures.items,
      c.push_words.ensures.items,
      c.push_reserved.ensures.items,
      c.padded.ensures.value,
      c.padded-2.ensures.value,
      k,
      v,
      c.words_for.ensures,
      c.words_for-2.ensures,
      c.bytes.ensures.value,
      c.bytes-2.ensures.value,
    ) (three _ _ _ _)

pub returns-clause-most : goal.returns-clause-most
returns-clause-most c = packed_most (record { key = c.args.key.now; value = c.args.value.now }) (record { key_length = c.bytes.ensures.len; value_length = c.bytes-2.ensures.len; key_bytes = c.bytes.ensures.bytes; value_bytes = c.bytes-2.ensures.bytes })
