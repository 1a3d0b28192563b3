use Rattle.std.proofs.Common.{◌≡◌, ℕ, rules, arith, subst, Some}
use Rattle.std.proofs.lemmas.Grind.{common_steps}
use Rattle.slot_word.specs.Slots.{IsSlot, slot_word, slot_of}
use Rattle.slot_word.proofs.SlotLaws.{slot_of-slot_word}
use Rattle.slot_word.proofs.slots.pack.Goals as goal

pub returns-clause-back : goal.returns-clause-back
unfolding slot_word
returns-clause-back c =
    let slot = c.args.slot.now in
    let P : ℕ → Type 0 = λ word. slot_of word ≡ Some slot in
    let fields : IsSlot slot = record { low = c.requires.low; high = c.requires.high; print = search rules; words = search rules } in
    subst P (grind (arith, common_steps, c.bits.ensures, fields)) (slot_of-slot_word slot fields)
