use Rattle.std.proofs.Common.{sym, subst, ◌∙◌, length, List, ℕ, arith}
use Rattle.kv_block.specs.Bytes.{IsKeyLength}
use Rattle.spelling.proofs.Names.{name-there}
use Rattle.storm_script.proofs.Texts.{key-length}
use Rattle.storm_script.proofs.storm.key_of.Goals as goal

pub unwrap-requires : goal.unwrap-requires
unwrap-requires c =
    let text = c.as_bytes.ensures.value ∙ c.in_ok-text.ensures.ok in
    let most = key-length c.args.number in
    name-there _ _ _ c.from_bytes.ensures (subst (λ (bytes : List ℕ). IsKeyLength (length bytes)) (sym text) (record { least = omega arith; most = omega (arith, most) }))
