use Rattle.std.proofs.Common.{ℕ, ◌*◌, ◌≡◌, List, length, take, replicate, ap, ◌∙◌, arith}
use Rattle.std.proofs.lemmas.List.{take_at, length-take-le}
use Rattle.kv_block.specs.Packing.{words_of}
use Rattle.kv_block.proofs.WordsOfBytes.{words_of_read, words_of-take, words_of-filled}
use Rattle.kv_block.proofs.reading.key_words.Goals as goal

pub returns : goal.returns
returns c =
    let dst = c.read_u64_into.new.dst in
    let bytes = c.padded.result.now in
    let n = c.args.count in
    let zeros : List ℕ = replicate 8 0 in
    let some = length-take-le n zeros c.requires in
    let long : length dst ≡ n = omega (arith, some) in
    take_at dst _ n long ∙ words_of_read dst (take (8 * n) bytes) c.read_u64_into.ensures
    ∙ ap (λ (m : ℕ). words_of m (take (8 * n) bytes)) long ∙ words_of-take n bytes ∙ ap (words_of n) c.padded.ensures.value ∙ words_of-filled n 64 c.args.key.now
