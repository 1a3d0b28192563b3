-- A slot word and its slot, both ways.
use Rattle.std.proofs.Common.{◌≡◌, ℕ, zero, suc, ◌+◌, ◌*◌, ◌/◌, ◌%◌, ◌^◌, ◌<◌, ◌≤◌, Option, Some, None, unwrap_or, refl, sym, ◌∙◌, ap, subst, arith}
use Rattle.std.proofs.lemmas.Grind.{common_steps}
use Rattle.slot_word.specs.declared.slots.Mark.{Mark}
use Rattle.slot_word.specs.declared.slots.Mark.TheVariants.{Live, Pending, Copied, Moved}
use Rattle.slot_word.specs.declared.slots.Slot.{Slot}
use Rattle.slot_word.specs.Slots.{mark_bits, mark_of, IsSlot, slot_word, slot_of, fields_of}

-- the two bits of a mark are its own
pub mark_of-mark_bits : (mark : Mark) → mark_of (mark_bits mark) ≡ mark
mark_of-mark_bits Live = refl
mark_of-mark_bits Pending = refl
mark_of-mark_bits Copied = refl
mark_of-mark_bits Moved = refl

pub mark_bits-below : (mark : Mark) → mark_bits mark < 4
mark_bits-below Live = omega arith
mark_bits-below Pending = omega arith
mark_bits-below Copied = omega arith
mark_bits-below Moved = omega arith

-- two bits are those of their mark
pub mark_bits-mark_of : (bits : ℕ) → bits < 4 → mark_bits (mark_of bits) ≡ bits
mark_bits-mark_of zero h = refl
mark_bits-mark_of (suc zero) h = refl
mark_bits-mark_of (suc (suc zero)) h = refl
mark_bits-mark_of (suc (suc (suc zero))) h = refl
mark_bits-mark_of (suc (suc (suc (suc n)))) h = absurd (omega arith)

-- the slot of these fields
abbrev slot_from : Mark → ℕ → ℕ → ℕ → Slot
slot_from mark fp len at = record { mark = mark; fp = fp; len = len; at = at }

-- two slots with the same fields are one
same : (m n : Mark) (f g l k a b : ℕ) → m ≡ n → f ≡ g → l ≡ k → a ≡ b → slot_from m f l a ≡ slot_from n g k b
same m n f g l k a b p q r s = cc

-- the fields of a packed slot are the slot
pub fields_of-slot_word : (slot : Slot) → IsSlot slot → fields_of (slot_word slot) ≡ slot
unfolding fields_of slot_word
fields_of-slot_word slot h =
    let m : mark_bits slot.mark < 4 = mark_bits-below slot.mark in
    let w = slot.fp * 2 ^ 56 + slot.len * 2 ^ 48 + mark_bits slot.mark * 2 ^ 46 + slot.at in
    let low = h.low in let high = h.high in let print = h.print in let words = h.words in
    let at_is : w % 2 ^ 46 ≡ slot.at = omega arith in
    let mark_is : w / 2 ^ 46 % 4 ≡ mark_bits slot.mark = omega arith in
    let len_is : w / 2 ^ 48 % 2 ^ 8 ≡ slot.len = omega arith in
    let fp_is : w / 2 ^ 56 ≡ slot.fp = omega arith in
    let mark_is_own : mark_of (w / 2 ^ 46 % 4) ≡ slot.mark = ap mark_of mark_is ∙ mark_of-mark_bits slot.mark in
    same _ _ _ _ _ _ _ _ mark_is_own fp_is len_is at_is

-- a word is that of its fields
pub slot_word-fields_of : (word : ℕ) → slot_word (fields_of word) ≡ word
unfolding fields_of slot_word
slot_word-fields_of word =
    let bits : mark_bits (mark_of (word / 2 ^ 46 % 4)) ≡ word / 2 ^ 46 % 4 = mark_bits-mark_of (word / 2 ^ 46 % 4) (omega arith) in
    omega (arith, bits)

-- a word with address bits reads as its fields
pub slot_of-full : (word : ℕ) → 1 ≤ word % 2 ^ 46 → slot_of word ≡ Some (fields_of word)
unfolding slot_of
slot_of-full word h = grind (arith, common_steps)

-- a word with no address bit reads as no slot
pub slot_of-empty : (word : ℕ) → word % 2 ^ 46 ≡ 0 → slot_of word ≡ None
unfolding slot_of
slot_of-empty word h = grind (arith, common_steps)

-- the empty slot is no slot
pub slot_of-zero : slot_of 0 ≡ None
unfolding slot_of
slot_of-zero = refl

some_not_none : {slot : Slot} → Some slot ≡ None → ⊥
some_not_none e = cc

-- what reads as a slot has address bits, and its fields are the slot
pub slot_of-some : (word : ℕ) (slot : Slot) → slot_of word ≡ Some slot → (1 ≤ word % 2 ^ 46) × (fields_of word ≡ slot)
slot_of-some word slot h = by_bits (word % 2 ^ 46) refl where
  by_bits : (bits : ℕ) → word % 2 ^ 46 ≡ bits → (1 ≤ word % 2 ^ 46) × (fields_of word ≡ slot)
  by_bits zero e = absurd (some_not_none (sym h ∙ slot_of-empty word e))
  by_bits (suc n) e =
      let some : 1 ≤ word % 2 ^ 46 = omega arith in
      (some, ap (λ (o : Option Slot). unwrap_or o slot) (sym (slot_of-full word some) ∙ h))

-- what reads as a slot is its packed form
pub slot_word-slot_of : (word : ℕ) (slot : Slot) → slot_of word ≡ Some slot → slot_word slot ≡ word
slot_word-slot_of word slot h = ap slot_word (sym (slot_of-some word slot h).1) ∙ slot_word-fields_of word

-- what reads as a slot fits its fields
pub IsSlot-slot_of : (word : ℕ) (slot : Slot) → word < 2 ^ 64 → slot_of word ≡ Some slot → IsSlot slot
unfolding fields_of
IsSlot-slot_of word slot fits h =
    let some = (slot_of-some word slot h).0 in
    let fields : IsSlot (fields_of word) = record { low = some; high = omega arith; print = omega arith; words = omega arith } in
    subst IsSlot (slot_of-some word slot h).1 fields

-- the address bits of a packed slot
address : (slot : Slot) → IsSlot slot → 1 ≤ slot_word slot % 2 ^ 46
unfolding slot_word
address slot h =
    let m : mark_bits slot.mark < 4 = mark_bits-below slot.mark in
    let low = h.low in let high = h.high in omega arith

-- what was packed is read back
pub slot_of-slot_word : (slot : Slot) → IsSlot slot → slot_of (slot_word slot) ≡ Some slot
slot_of-slot_word slot h =
    slot_of-full (slot_word slot) (address slot h) ∙ ap (λ (s : Slot). Some s) (fields_of-slot_word slot h)

-- two different slots never pack to one word
pub slot_word-one : (a b : Slot) → IsSlot a → IsSlot b → slot_word a ≡ slot_word b → a ≡ b
slot_word-one a b h k e = sym (fields_of-slot_word a h) ∙ ap fields_of e ∙ fields_of-slot_word b k

-- a packed slot is a word of 64 bits, and not the empty slot
pub slot_word-fits : (slot : Slot) → IsSlot slot → slot_word slot < 2 ^ 64
unfolding slot_word
slot_word-fits slot h =
    let m : mark_bits slot.mark < 4 = mark_bits-below slot.mark in
    let high = h.high in let print = h.print in let words = h.words in omega arith

pub slot_word-some : (slot : Slot) → IsSlot slot → 0 < slot_word slot
unfolding slot_word
slot_word-some slot h = let low = h.low in omega arith
