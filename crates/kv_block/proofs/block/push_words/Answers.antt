use Rattle.std.proofs.Common.{◌≡◌, ℕ, ◌*◌, ◌++◌, ◌∷◌, [], List, drop, ap, sym, ◌∙◌, append_assoc, arith}
use Rattle.byteorder.specs.Endian.{little_number}
use Rattle.kv_block.specs.Packing.{words_of}
use Rattle.kv_block.proofs.WordsOfBytes.{words_of-next, number-part}
use Rattle.kv_block.proofs.block.push_words.Goals as goal

pub loop-i-preserved : goal.loop-i-preserved
loop-i-preserved c =
    let i = c.loop-i.i in
    let bytes = c.args.bytes.now in
    let w : c.read_u64.result ≡ little_number 8 (drop (8 * i) bytes) = c.read_u64.ensures ∙ number-part _ (drop (8 * i) bytes) (omega arith) in
    record {
      items = c.push_reserved.ensures.items
          ∙ (λ j. c.loop-i.invariant.items j ++ w j ∷ [])
          ∙ append_assoc c.args.words.now.items (words_of i bytes) (little_number 8 (drop (8 * i) bytes) ∷ [])
          ∙ ap (λ (ws : List ℕ). c.args.words.now.items ++ ws) (sym (words_of-next i bytes));
      capacity = c.push_reserved.ensures.capacity ∙ c.loop-i.invariant.capacity;
      len = let a = c.push_reserved.ensures.len in let b = c.loop-i.invariant.len in omega (arith, a, b);
    }
