-- One choice more, and one bucket header more.
use Rattle.std.specs.Prelude.{◌≡◌, ◌≢◌, ℕ, zero, suc, ◌-◌, ◌<◌, ◌≤◌, Bool, false, List, length, slice_set, Option, Some, None, refl}
use Rattle.std.proofs.Common.{sym, ap, ◌∙◌, arith, ⊎_elim}
use Rattle.bucket_group.proofs.CandidateLaws.{length-candidates_two}
use Rattle.verb_log.specs.declared.entry.Verb.TheVariants.{Read}
use Rattle.verbs.specs.Programs.{Prog, ask, do_verb}
use Rattle.pass_text.specs.declared.passed.Passed.{Passed}
use Rattle.block_taking.specs.declared.taking.Area.{Area}
use Rattle.op_insert.specs.Text.{Inserting, Part, places_of, slot_in, choice_of, take_and_place, on_parent_word, choose_filling, help_from}

pub help-more : (u d : ℕ) (next : Prog Part) (n m : ℕ) → 0 ≢ n → help_from u d next (suc (n - 1)) m ≡ help_from u d next n m
help-more u d next n m some = let e : suc (n - 1) ≡ n = omega arith in ap (λ v. help_from u d next v m) e

pub choice-more : (i : Inserting) (p : Passed) (u n : ℕ) (free : List Bool) (o kept : Option ℕ) (area : Area) (left c : ℕ) → 1 ≤ n → o ≡ Some c
    → ask (do_verb None (Read (slot_in i u c))) (on_parent_word i p.head.depth (choose_filling i p u (n - 1) (slice_set free c false) (choice_of i (slice_set free c false)) kept area left) (take_and_place i p.table (slot_in i p.table c) kept area left))
    ≡ choose_filling i p u n free o kept area left
choice-more i p u n free o kept area left c some e = let f : suc (n - 1) ≡ n = omega arith in ap (λ v. choose_filling i p u (suc (n - 1)) free v kept area left) (sym e) ∙ ap (λ v. choose_filling i p u v free o kept area left) f

pub choice-none : (i : Inserting) (p : Passed) (u n : ℕ) (free : List Bool) (o kept : Option ℕ) (area : Area) (left : ℕ) → o ≡ None → choose_filling i p u 0 free o kept area left ≡ choose_filling i p u n free o kept area left
choice-none i p u zero free o kept area left e = refl
choice-none i p u (suc n) free o kept area left e = ap (λ v. choose_filling i p u 0 free v kept area left) e ∙ ap (λ v. choose_filling i p u (suc n) free v kept area left) (sym e)

pub place-low : (i : Inserting) (c : ℕ) → c < length (places_of i) → c < 28
place-low i c h = ⊎_elim (λ (x : length (places_of i) ≡ 21). omega arith) (λ (x : length (places_of i) ≡ 28). omega arith) (length-candidates_two i.job.geometry.groups i.job.hash)

pub ruleset chooses = (help-more, choice-more, choice-none, place-low)
