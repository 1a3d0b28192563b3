use Rattle.std.proofs.Common.{◌≡◌, ℕ, arith, subst, Some}
use Rattle.std.proofs.lemmas.Grind.{common_steps}
use Rattle.slot_word.specs.Heads.{head_word, head_of}
use Rattle.slot_word.proofs.HeadLaws.{head_of-head_word, head_word-fits}
use Rattle.slot_word.proofs.heads.head_word.Goals as goal

pub returns-clause-back : goal.returns-clause-back
unfolding head_word
returns-clause-back c =
    let head = c.args.head.now in
    let P : ℕ → Type 0 = λ word. head_of word ≡ Some head in
    subst P (grind (arith, common_steps, c.bits.ensures, head_word-fits head c.requires)) (head_of-head_word head c.requires)
