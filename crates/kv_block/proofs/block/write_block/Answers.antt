use Rattle.std.proofs.Common.{refl, ap, ◌∙◌}
use Rattle.kv_block.specs.Packing.{packed, unpacked}
use Rattle.kv_block.proofs.Packed.{unpacked-packed}
use Rattle.kv_block.proofs.WordsOfBytes.{words_of-filled}
use Rattle.kv_block.proofs.block.write_block.Goals as goal

pub returns-clause-words : goal.returns-clause-words
unfolding packed
returns-clause-words c =
    let k = words_of-filled c.words_for-key_words.result 64 c.args.key.now in
    let v = words_of-filled c.words_for-value_words.result 1024 c.args.value.now in
    rw (
      c.put_words-2.ensures.words,
      c.put_words.ensures.words,
      c.begun-words.ensures.words,
      c.padded.ensures.value,
      c.padded-2.ensures.value,
      k,
      v,
      c.words_for-key_words.ensures,
      c.words_for-value_words.ensures,
      c.bytes.ensures.value,
      c.bytes-2.ensures.value,
    ) refl

pub returns-clause-read : goal.returns-clause-read
returns-clause-read c =
    ap unpacked (returns-clause-words c)
    ∙ unpacked-packed (record { key = c.args.key.now; value = c.args.value.now })
    (record { key_length = c.bytes.ensures.len; value_length = c.bytes-2.ensures.len; key_bytes = c.bytes.ensures.bytes; value_bytes = c.bytes-2.ensures.bytes })
