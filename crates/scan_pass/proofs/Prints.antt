-- A word with another fingerprint is passed over.
use Rattle.std.specs.Prelude.{◌≡◌, ◌≢◌, ℕ, ◌/◌, ◌^◌, ◌==◌, ◌%◌, if◌then◌else◌, Bool, true, false, Option, Some, None, refl}
use Rattle.std.proofs.Common.{sym, ap, ◌∙◌, arith}
use Rattle.std.proofs.lemmas.Bool.Decides.{nat_tests}
use Rattle.verbs.specs.Programs.{Prog}
use Rattle.slot_word.specs.declared.slots.Slot.{Slot}
use Rattle.slot_word.specs.Slots.{slot_of, fields_of}
use Rattle.bucket_group.specs.Buckets.{fingerprint_of}
use Rattle.pass_text.specs.declared.job.Job.{Job}
use Rattle.pass_text.specs.declared.passed.Passed.{Passed}
use Rattle.pass_text.specs.Words.{concerns}
use Rattle.pass_text.specs.Pass.{Seen, judge_slot}

other : (j : Job) (slot : Slot) (fp : ℕ) → slot.fp ≡ fp → fp ≢ fingerprint_of j.hash → concerns j slot ≡ false
unfolding concerns
other j slot fp e n =
    let k : slot.fp ≢ fingerprint_of j.hash = λ q. n (sym e ∙ q) in
    let f : (slot.fp == fingerprint_of j.hash) ≡ false = grind (arith, nat_tests, k) in
    rw f refl

by_slot : (j : Job) (i : ℕ) (s : Seen) (word fp : ℕ) (o : Option Slot) (next : Seen → Prog Passed) (again : Seen → ℕ → Prog Passed)
    → ((slot : Slot) → o ≡ Some slot → slot.fp ≡ fp) → fp ≢ fingerprint_of j.hash → judge_slot j i s word o next again ≡ next s
by_slot j i s word fp None next again h n = refl
by_slot j i s word fp (Some slot) next again h n = rw (other j slot fp (h slot refl) n) refl

picked : (t : Bool) (x slot : Slot) → (if t then None else Some x) ≡ Some slot → x ≡ slot
picked true x slot e = absurd (cc)
picked false x slot e = cc

print_of : (word : ℕ) (slot : Slot) → slot_of word ≡ Some slot → slot.fp ≡ word / 2 ^ 56
unfolding slot_of fields_of
print_of word slot e = ap (λ (s : Slot). s.fp) (sym (picked (word % 2 ^ 46 == 0) (fields_of word) slot e))

pub print-other : (j : Job) (i : ℕ) (s : Seen) (word : ℕ) (next : Seen → Prog Passed) (again : Seen → ℕ → Prog Passed)
    → word / 2 ^ 56 ≢ fingerprint_of j.hash → judge_slot j i s word (slot_of word) next again ≡ next s
print-other j i s word next again n = by_slot j i s word (word / 2 ^ 56) (slot_of word) next again (print_of word) n

pub ruleset prints = (print-other)
