use Rattle.std.proofs.Common.{sym, subst, ◌∙◌, ◌≤◌, length, List, ℕ, arith}
use Rattle.spelling.proofs.Names.{name-there}
use Rattle.storm_script.proofs.Texts.{value-length}
use Rattle.storm_script.proofs.storm.value_of.Goals as goal

pub unwrap-requires : goal.unwrap-requires
unwrap-requires c =
    let text = c.as_bytes.ensures.value ∙ c.in_ok-text.ensures.ok in
    let most = value-length c.args.number in
    name-there _ _ _ c.from_bytes.ensures (subst (λ (bytes : List ℕ). length bytes ≤ 1024) (sym text) (omega (arith, most)))
