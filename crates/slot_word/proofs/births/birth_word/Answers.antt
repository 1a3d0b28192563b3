use Rattle.std.proofs.Common.{◌≡◌, ℕ, arith, subst, Some}
use Rattle.std.proofs.lemmas.Grind.{common_steps}
use Rattle.slot_word.specs.Births.{IsBirth, birth_word, birth_of}
use Rattle.slot_word.proofs.BirthLaws.{birth_of-birth_word, suffix-fits}
use Rattle.slot_word.proofs.births.birth_word.Goals as goal

pub returns-clause-back : goal.returns-clause-back
unfolding birth_word
returns-clause-back c =
    let birth = c.args.birth.now in
    let P : ℕ → Type 0 = λ word. birth_of word ≡ Some birth in
    let fields : IsBirth birth = record { depth = c.requires.depth; suffix = c.requires.suffix; parent = c.requires.parent } in
    subst P (grind (arith, common_steps, suffix-fits birth.depth birth.suffix c.requires.depth c.requires.suffix)) (birth_of-birth_word birth fields)
