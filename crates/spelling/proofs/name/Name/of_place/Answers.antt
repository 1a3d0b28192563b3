use Rattle.std.proofs.Common.{ℕ, List, IsTrue, ◌∙◌, sym, subst}
use Rattle.spelling.specs.Words.{is_name}
use Rattle.spelling.proofs.Names.{made-is-name, name-there}
use Rattle.spelling.proofs.name.Name.of_place.Goals as goal

pub unwrap-requires : goal.unwrap-requires
unwrap-requires c =
    let text = c.as_bytes.ensures.value ∙ c.in_ok-text.ensures.ok in
    name-there _ _ _ c.from_bytes.ensures (subst (λ (bytes : List ℕ). IsTrue (is_name bytes)) (sym text) (made-is-name c.args.place c.requires))
