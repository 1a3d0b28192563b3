-- A program with a function of its outcome does the same acts, and ends as soon.
use Rattle.std.specs.Prelude.{ℕ, zero, suc}
use Rattle.verb_log.specs.Tables.{Past}
use Rattle.verbs.specs.Programs.{do_verb, ask_hash, Prog, ret, ask, mapped, Within}
use Rattle.race_laws.specs.Setting.{Setting, hash}
use Rattle.pass_laws.specs.SafeIn.{Rule, SafeBy}
use Rattle.pass_laws.proofs.Rules.{by_do_map}

pub Within-mapped : {A B : Type 0} (f : A → B) (n : ℕ) (p : Prog A) → Within n p → Within n (mapped f p)
unfolding mapped
Within-mapped f n (ret a) h = tt
Within-mapped f zero (ask act k) h = h
Within-mapped f (suc n) (ask act k) h = λ answer. Within-mapped f n (k answer) (h answer)

-- where its end holds of what the function makes of each outcome it is as safe
pub by_mapped : {A B : Type 0} (R : Rule) (s : Setting) (c : ℕ) (f : A → B) (q : Past) (p : Prog A) (End : Past → B → Type 0) → SafeBy R s c q p (λ y a. End y (f a)) → SafeBy R s c q (mapped f p) End
unfolding mapped
by_mapped R s c f q (ret a) End h = h
by_mapped R s c f q (ask (ask_hash key) k) End h = by_mapped R s c f q (k (hash s key)) End h
by_mapped R s c f q (ask (do_verb block verb) k) End h =
    (h.0, λ n l b. by_do_map R s c R (λ z e x. x) n block verb (λ z answer. SafeBy R s c z (k answer) (λ y a. End y (f a))) (λ z answer. SafeBy R s c z (mapped f (k answer)) End) (λ z answer x. by_mapped R s c f z (k answer) End x) (h.1 n l b))
