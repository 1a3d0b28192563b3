use Rattle.std.proofs.Common.{arith, sym, ◌∙◌}
use Rattle.kv_block.specs.Filled.{IsFilled-filled, take-filled}
use Rattle.spelling.proofs.Names.{length-name}
use Rattle.spelling.proofs.name.Name.from_bytes.Goals as goal

pub padded-requires : goal.padded-requires
padded-requires c = (omega arith, length-name c.args.bytes.now (sym c.is_name_text.ensures ∙ c.if-not-is_name_text.false))

pub invariant_of-result : goal.invariant_of-result
invariant_of-result c =
    let name = sym c.is_name_text.ensures ∙ c.if-not-is_name_text.false in
    (rw c.padded.ensures (IsFilled-filled 16 _ (length-name _ name)), rw (c.padded.ensures, take-filled 16 _) name)

pub returns : goal.returns
returns c = (sym c.is_name_text.ensures ∙ c.if-not-is_name_text.false, rw c.padded.ensures (take-filled 16 _))
