-- What a slot word tells: the text reads it as a slot, logs as its content.
use Rattle.std.specs.Prelude.{◌≡◌, ℕ, ◌%◌, ◌^◌, ◌≤◌, ◌==◌, Bool, true, false, cond, Some, None, refl}
use Rattle.std.proofs.Common.{sym, ◌∙◌, ap, arith}
use Rattle.std.proofs.lemmas.Bool.Decides.{nat_tests}
use Rattle.slot_word.specs.declared.slots.Mark.{Mark}
use Rattle.slot_word.specs.declared.slots.Slot.{Slot}
use Rattle.slot_word.specs.Slots.{slot_of}
use Rattle.slot_word.proofs.SlotLaws.{slot_of-some}
use Rattle.verb_log.specs.Decoded.{Body, Empty, Full, content, content_of}
use Rattle.pass_laws.proofs.SameWords.{body_of, content_slot}

pub equal : (x y : ℕ) → (x == y) ≡ true → x ≡ y
equal x y h = grind (arith, nat_tests)

pub differ : (x y : ℕ) → x ≡ y → (x == y) ≡ false → ⊥
differ x y h k = grind (arith, nat_tests)

-- a word that packs a slot is full, with its mark and its block
pub slot_content : (word : ℕ) (x : Slot) → slot_of word ≡ Some x → content word ≡ Full x.mark (body_of x)
unfolding content
slot_content word x e = by (word == 0) refl
  where
    zero_mod : (w : ℕ) → w ≡ 0 → 1 ≤ w % 2 ^ 46 → ⊥
    zero_mod w z h = omega arith

    by : (v : Bool) → (word == 0) ≡ v → cond v Empty (content_of (slot_of word)) ≡ Full x.mark (body_of x)
    by true z = absurd (zero_mod word (equal word 0 z) (slot_of-some word x e).0)
    by false z = ap content_of e

-- one that packs none is not
pub none_full : (word : ℕ) → slot_of word ≡ None → (m : Mark) (b : Body) → content word ≡ Full m b → ⊥
none_full word e m b h = let x = content_slot word m b h in no_some x.0 (sym e ∙ x.1)
  where
    no_some : (a : Slot) → None ≡ Some a → ⊥
    no_some a h = cc

pub mark_same : (m n : Mark) (b c : Body) → Full m b ≡ Full n c → m ≡ n
mark_same m n b c h = cc
