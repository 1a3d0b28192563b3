use Rattle.std.proofs.Common.{ℕ, ◌+◌, ◌*◌, ◌-◌, ◌≡◌, ◌++◌, length, take, ap, ◌∙◌, arith}
use Rattle.std.proofs.lemmas.Slice.{take-put_mid}
use Rattle.kv_block.specs.Packing.{words_of}
use Rattle.kv_block.proofs.WordsOfBytes.{IsFilled-put, words_of_read, words_of-take}
use Rattle.kv_block.proofs.block.put_words.Goals as goal

pub returns-clause-filled : goal.returns-clause-filled
returns-clause-filled c =
    let k : c.args.at + c.args.count - c.args.at ≡ c.args.count = omega arith in
    rw k (IsFilled-put 137 c.args.at c.args.count c.args.words.now c.read_u64_into.new.dst c.requires.filled (omega arith) c.requires.room)

pub returns-clause-words : goal.returns-clause-words
returns-clause-words c =
    let long : length c.read_u64_into.new.dst ≡ c.args.count = omega arith in
    let read = words_of_read c.read_u64_into.new.dst (take (8 * c.args.count) c.args.bytes.now) c.read_u64_into.ensures in
    take-put_mid c.args.at _ c.args.words.now c.read_u64_into.new.dst (c.args.at + c.args.count) (omega arith) (omega (arith, c.requires.filled.fits, c.requires.filled.long))
    ∙ ap (λ ys. take c.args.at c.args.words.now ++ ys) (read ∙ ap (λ (n : ℕ). words_of n (take (8 * c.args.count) c.args.bytes.now)) long ∙ words_of-take c.args.count c.args.bytes.now)
