-- Header words by what they say. Of every word.
use Rattle.std.specs.Prelude.{◌≡◌, ℕ, ◌≤◌, Option, Some, None, refl}
use Rattle.std.proofs.Common.{sym, ◌∙◌, ap}
use Rattle.slot_word.specs.declared.heads.State.{State}
use Rattle.slot_word.specs.declared.heads.State.TheVariants.{Plain, Splitting, Filling}
use Rattle.slot_word.specs.declared.heads.Head.{Head}
use Rattle.slot_word.specs.Heads.{head_of}
use Rattle.slot_word.proofs.HeadLaws.{head_of-head_word, head_word-head_of}
use Rattle.verb_log.specs.Decoded.{PlainAt, SplittingAt, FillingAt, header, header_of}
use Rattle.race_laws.specs.Standing.{depth}
use Rattle.log_facts.specs.SlotWords.{plain_of, splitting_of, filling_of}

pub says_plain : (d : ℕ) → d ≤ 16 → header (plain_of d) ≡ PlainAt d
unfolding header
says_plain d h = ap header_of (head_of-head_word (record { depth = d; state = Plain }) h)

pub says_splitting : (d : ℕ) → d ≤ 16 → header (splitting_of d) ≡ SplittingAt d
unfolding header
says_splitting d h = ap header_of (head_of-head_word (record { depth = d; state = Splitting }) h)

pub says_filling : (d : ℕ) → d ≤ 16 → header (filling_of d) ≡ FillingAt d
unfolding header
says_filling d h = ap header_of (head_of-head_word (record { depth = d; state = Filling }) h)

pub is_splitting : (w d : ℕ) → header w ≡ SplittingAt d → w ≡ splitting_of d
unfolding header
is_splitting w d e = by (head_of w) refl e
  where
    by_state : (st : State) (x : ℕ) → head_of w ≡ Some (record { depth = x; state = st }) → header_of (Some (record { depth = x; state = st })) ≡ SplittingAt d → w ≡ splitting_of d
    by_state Splitting x f g = let same : x ≡ d = ap depth g in sym (head_word-head_of w (record { depth = x; state = Splitting }) f).1 ∙ ap splitting_of same
    by_state Plain x f g = absurd (cc)
    by_state Filling x f g = absurd (cc)

    by : (o : Option Head) → head_of w ≡ o → header_of o ≡ SplittingAt d → w ≡ splitting_of d
    by None f g = absurd (cc)
    by (Some x) f g = by_state x.state x.depth f g

pub is_filling : (w d : ℕ) → header w ≡ FillingAt d → w ≡ filling_of d
unfolding header
is_filling w d e = by (head_of w) refl e
  where
    by_state : (st : State) (x : ℕ) → head_of w ≡ Some (record { depth = x; state = st }) → header_of (Some (record { depth = x; state = st })) ≡ FillingAt d → w ≡ filling_of d
    by_state Filling x f g = let same : x ≡ d = ap depth g in sym (head_word-head_of w (record { depth = x; state = Filling }) f).1 ∙ ap filling_of same
    by_state Plain x f g = absurd (cc)
    by_state Splitting x f g = absurd (cc)

    by : (o : Option Head) → head_of w ≡ o → header_of o ≡ FillingAt d → w ≡ filling_of d
    by None f g = absurd (cc)
    by (Some x) f g = by_state x.state x.depth f g
