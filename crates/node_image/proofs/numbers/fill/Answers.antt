use Rattle.std.proofs.Common.{rules, ◌≡◌, ◌*◌, sym, ◌∙◌, ap, subst, length}
use Rattle.kv_block.specs.Packing.{bytes_of}
use Rattle.kv_block.proofs.Ranges.{AreBytes-from_fits}
use Rattle.kv_block.proofs.WordsOfBytes.{words_of_read}
use Rattle.race_laws.specs.Standing.{IsIn}
use Rattle.node_image.proofs.ByteNumbers.{bytes_back, words_small}
use Rattle.node_image.proofs.numbers.fill.Goals as goal

pub returns-clause-bytes : goal.returns-clause-bytes
returns-clause-bytes c =
    let e = words_of_read c.read_u64_into.new.dst c.args.bytes.now c.read_u64_into.ensures in
    let l : length c.args.bytes.now ≡ 8 * length c.read_u64_into.new.dst = search rules in
    bytes_back (length c.read_u64_into.new.dst) c.args.bytes.now (AreBytes-from_fits _ (λ k. c.type_inv.bytes k)) l ∙ ap bytes_of (sym e)

pub returns-clause-small : goal.returns-clause-small
returns-clause-small c = λ x i.
    let e = words_of_read c.read_u64_into.new.dst c.args.bytes.now c.read_u64_into.ensures in
    words_small (length c.read_u64_into.new.dst) c.args.bytes.now (λ k. let f = c.type_inv.bytes k in search rules) x (subst (IsIn x) e i)
