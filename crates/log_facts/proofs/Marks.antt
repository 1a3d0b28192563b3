-- Slot words by what they say: a word is that of its mark and its block, and another mark may be put on it. Of every word.
use Rattle.std.specs.Prelude.{◌≡◌, ℕ, ◌+◌, ◌*◌, ◌/◌, ◌%◌, ◌^◌, ◌<◌, ◌≤◌, ◌==◌, Bool, true, false, cond, Option, Some, None, refl}
use Rattle.std.proofs.Common.{sym, ◌∙◌, ap, subst, arith}
use Rattle.std.proofs.lemmas.Bool.{cond-false}
use Rattle.std.proofs.lemmas.Bool.Decides.{nat_tests}
use Rattle.std.proofs.lemmas.Nat.{mod_below, pow_pos}
use Rattle.slot_word.specs.declared.slots.Mark.{Mark}
use Rattle.slot_word.specs.declared.slots.Slot.{Slot}
use Rattle.slot_word.specs.Slots.{slot_word, slot_of, fields_of, mark_bits, mark_of}
use Rattle.slot_word.proofs.SlotLaws.{mark_of-mark_bits, mark_bits-below, slot_of-full, slot_of-some, slot_word-slot_of}
use Rattle.verb_log.specs.Decoded.{Body, Empty, Full, content, content_of}
use Rattle.log_facts.specs.SlotWords.{marked}

same_slot : (m n : Mark) (f g l k a b : ℕ) → m ≡ n → f ≡ g → l ≡ k → a ≡ b → (let x : Slot = record { mark = m; fp = f; len = l; at = a } in x) ≡ (let y : Slot = record { mark = n; fp = g; len = k; at = b } in y)
same_slot m n f g l k a b p q r s = cc

-- the fields of a packed slot, of any fingerprint
fields_back : (m : Mark) (fp len at : ℕ) → at < 2 ^ 46 → len < 2 ^ 8 → fields_of (slot_word (record { mark = m; fp = fp; len = len; at = at })) ≡ record { mark = m; fp = fp; len = len; at = at }
unfolding fields_of slot_word
fields_back m fp len at high words =
    let b : mark_bits m < 4 = mark_bits-below m in
    let w = fp * 2 ^ 56 + len * 2 ^ 48 + mark_bits m * 2 ^ 46 + at in
    let at_is : w % 2 ^ 46 ≡ at = omega arith in
    let mark_is : w / 2 ^ 46 % 4 ≡ mark_bits m = omega arith in
    let len_is : w / 2 ^ 48 % 2 ^ 8 ≡ len = omega arith in
    let fp_is : w / 2 ^ 56 ≡ fp = omega arith in
    same_slot _ _ _ _ _ _ _ _ (ap mark_of mark_is ∙ mark_of-mark_bits m) fp_is len_is at_is

address : (m : Mark) (fp len at : ℕ) → 1 ≤ at → at < 2 ^ 46 → 1 ≤ slot_word (record { mark = m; fp = fp; len = len; at = at }) % 2 ^ 46
unfolding slot_word
address m fp len at low high = let b : mark_bits m < 4 = mark_bits-below m in omega arith

pub record Fields (b : Body) : Type 0 where
  pub low : 1 ≤ b.at
  pub high : b.at < 2 ^ 46
  pub words : b.length < 2 ^ 8

-- what a full word says
of_slot : (w : ℕ) (m : Mark) (b : Body) (o : Option Slot) → slot_of w ≡ o → content_of o ≡ Full m b → Fields b × (marked m b ≡ w)
unfolding fields_of
of_slot w m b None q e = absurd (cc)
of_slot w m b (Some x) q e =
    let f = slot_of-some w x q in
    let at : w % 2 ^ 46 ≡ b.at = ap (λ (v : Slot). v.at) f.1 ∙ same_at x e in
    let len : w / 2 ^ 48 % 2 ^ 8 ≡ b.length = ap (λ (v : Slot). v.len) f.1 ∙ same_len x e in (
      record { low = subst (λ v. 1 ≤ v) at f.0; high = subst (λ v. v < 2 ^ 46) at (mod_below w (2 ^ 46) (pow_pos 46)); words = subst (λ v. v < 2 ^ 8) len (mod_below (w / 2 ^ 48) (2 ^ 8) (pow_pos 8)) },
      ap slot_word (same_slot m x.mark b.print x.fp b.length x.len b.at x.at (same_mark x e) (same_print x e) (sym (same_len x e)) (sym (same_at x e))) ∙ slot_word-slot_of w x q,
    )
  where
    same_at : (x : Slot) → content_of (Some x) ≡ Full m b → x.at ≡ b.at
    same_at x e = cc

    same_len : (x : Slot) → content_of (Some x) ≡ Full m b → x.len ≡ b.length
    same_len x e = cc

    same_mark : (x : Slot) → content_of (Some x) ≡ Full m b → m ≡ x.mark
    same_mark x e = cc

    same_print : (x : Slot) → content_of (Some x) ≡ Full m b → b.print ≡ x.fp
    same_print x e = cc

pub full_word : (w : ℕ) (m : Mark) (b : Body) → content w ≡ Full m b → Fields b × (marked m b ≡ w)
unfolding content
full_word w m b e = by (w == 0) e
  where
    by : (v : Bool) → cond v Empty (content_of (slot_of w)) ≡ Full m b → Fields b × (marked m b ≡ w)
    by true e = absurd (cc)
    by false e = of_slot w m b (slot_of w) refl e

-- a word is that of its content
pub word_is : (w : ℕ) (m : Mark) (b : Body) → content w ≡ Full m b → w ≡ marked m b
word_is w m b e = sym (full_word w m b e).1

-- another mark on the same block
pub content_marked : (n : Mark) (b : Body) → Fields b → content (marked n b) ≡ Full n b
unfolding content
content_marked n b f =
    let a = address n b.print b.length b.at f.low f.high in
    let some : (marked n b == 0) ≡ false = other (marked n b) a in
    cond-false _ _ _ some ∙ ap content_of (slot_of-full (marked n b) a ∙ ap Some (fields_back n b.print b.length b.at f.high f.words))
  where
    other : (w : ℕ) → 1 ≤ w % 2 ^ 46 → (w == 0) ≡ false
    other w h = by (w == 0) refl
      where
        zero_not : (w : ℕ) → 1 ≤ w % 2 ^ 46 → (w == 0) ≡ true → ⊥
        zero_not w h e = let z : w ≡ 0 = grind (arith, nat_tests, e) in let y = ap (λ v. v % 2 ^ 46) z in omega arith

        by : (v : Bool) → (w == 0) ≡ v → (w == 0) ≡ false
        by true e = absurd (zero_not w h e)
        by false e = e

-- an empty word is 0
pub empty_word : (w : ℕ) → content w ≡ Empty → w ≡ 0
unfolding content
empty_word w e = by (w == 0) refl e
  where
    of : (o : Option Slot) → content_of o ≡ Empty → ⊥
    of None e = cc
    of (Some x) e = cc

    zero_is : (w : ℕ) → (w == 0) ≡ true → w ≡ 0
    zero_is w e = grind (arith, nat_tests)

    by : (v : Bool) → (w == 0) ≡ v → cond v Empty (content_of (slot_of w)) ≡ Empty → w ≡ 0
    by true f e = zero_is w f
    by false f e = absurd (of (slot_of w) e)
