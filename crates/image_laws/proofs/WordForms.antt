-- What a word must be, by what it reads as.
use Rattle.std.specs.Prelude.{◌≡◌, ℕ, zero, suc, ◌+◌, ◌*◌, ◌/◌, ◌%◌, ◌^◌, ◌≤◌, ◌==◌, ◌&&◌, nat_le, nat_lt, Bool, true, false, cond, Option, Some, None, refl}
use Rattle.std.proofs.Common.{sym, ◌∙◌, ap, arith}
use Rattle.std.proofs.lemmas.Bool.Decides.{nat_tests}
use Rattle.slot_word.specs.declared.births.Birth.{Birth}
use Rattle.slot_word.specs.declared.slots.Slot.{Slot}
use Rattle.slot_word.specs.declared.heads.State.{State}
use Rattle.slot_word.specs.declared.heads.State.TheVariants.{Plain, Splitting, Filling}
use Rattle.slot_word.specs.declared.heads.Head.{Head}
use Rattle.slot_word.specs.Births.{birth_of, birth_word}
use Rattle.slot_word.specs.Heads.{head_of, head_word}
use Rattle.slot_word.specs.Slots.{slot_of}
use Rattle.slot_word.proofs.HeadLaws.{head_word-head_of}
use Rattle.node_words.specs.declared.geometry.Geometry.{Geometry}
use Rattle.verb_log.specs.Decoded.{Empty, content, content_of, PlainAt, header, header_of, header_with, birth, birth_or_none}
use Rattle.verb_log.specs.Tables.{Past, word_at, words_at}
use Rattle.image_laws.specs.Sound.{words_from}

-- a word of a birth that is not of depth 0
pub birth_back : (w d x p : ℕ) → 1 ≤ d → birth w ≡ record { depth = d; suffix = x; parent = p } → w ≡ birth_word (record { depth = d; suffix = x; parent = p })
unfolding birth birth_of birth_word
birth_back w d x p h e = by (nat_le (w % 2 ^ 8) 16 && nat_lt (w / 2 ^ 8 % 2 ^ 16) (2 ^ (w % 2 ^ 8))) e
  where
    by : (v : Bool) → birth_or_none (cond v (Some (record { depth = w % 2 ^ 8; suffix = w / 2 ^ 8 % 2 ^ 16; parent = w / 2 ^ 24 })) None) ≡ record { depth = d; suffix = x; parent = p } → w ≡ p * 2 ^ 24 + x * 2 ^ 8 + d
    by true k =
        let a = ap (λ (b : Birth). b.depth) k in
        let c = ap (λ (b : Birth). b.suffix) k in
        let f = ap (λ (b : Birth). b.parent) k in
        omega arith
    by false k = let a = ap (λ (b : Birth). b.depth) k in absurd (omega arith)

plain_head : (d x : ℕ) (t : State) → header_with x t ≡ PlainAt d → (let b : Head = record { depth = x; state = t } in b) ≡ record { depth = d; state = Plain }
plain_head d x Plain k = cc
plain_head d x Splitting k = absurd (cc)
plain_head d x Filling k = absurd (cc)

plain_word : (w d : ℕ) (o : Option Head) → head_of w ≡ o → header_of o ≡ PlainAt d → w ≡ head_word (record { depth = d; state = Plain })
plain_word w d None e k = absurd (cc)
plain_word w d (Some head) e k = sym (head_word-head_of w head e).1 ∙ ap head_word (plain_head d head.depth head.state k)

-- two words of one plain header are one
pub plain_same : (v w d : ℕ) → header v ≡ PlainAt d → header w ≡ PlainAt d → v ≡ w
unfolding header
plain_same v w d h k = plain_word v d (head_of v) refl h ∙ sym (plain_word w d (head_of w) refl k)

-- the word of an empty slot is 0
pub empty_zero : (w : ℕ) → content w ≡ Empty → w ≡ 0
unfolding content
empty_zero w e = by (w == 0) refl e
  where
    is_zero : (x : ℕ) → (x == 0) ≡ true → x ≡ 0
    is_zero x h = grind (arith, nat_tests)

    none : (o : Option Slot) → content_of o ≡ Empty → ⊥
    none (Some slot) h = cc
    none None h = cc

    by : (v : Bool) → (w == 0) ≡ v → cond v Empty (content_of (slot_of w)) ≡ Empty → w ≡ 0
    by true h k = is_zero w h
    by false h k = absurd (none (slot_of w) k)

pub words_same : (g : Geometry) (q : Past) (a n : ℕ) → words_from (word_at g q) a n ≡ words_at g q a n
words_same g q a zero = refl
words_same g q a (suc n) = let e = words_same g q (suc a) n in cc
