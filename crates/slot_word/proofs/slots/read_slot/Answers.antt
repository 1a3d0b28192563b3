use Rattle.std.proofs.Common.{◌≡◌, ◌/◌, ◌%◌, rules, arith, Some}
use Rattle.std.proofs.lemmas.Grind.{common_steps}
use Rattle.slot_word.specs.Slots.{slot_of, fields_of}
use Rattle.slot_word.proofs.SlotLaws.{IsSlot-slot_of, slot_word-slot_of}
use Rattle.slot_word.proofs.slots.read_slot.Goals as goal

pub returns-clause-packed : goal.returns-clause-packed
unfolding slot_of fields_of
returns-clause-packed c =
    let reads : slot_of c.args.word ≡ Some (record { mark = c.of_bits.result; fp = c.args.word / 72057594037927936; len = c.args.word / 281474976710656 % 256; at = c.args.word % 70368744177664 }) = grind (arith, common_steps, c.of_bits.ensures) in
    (IsSlot-slot_of c.args.word _ (search rules) reads, slot_word-slot_of c.args.word _ reads)
