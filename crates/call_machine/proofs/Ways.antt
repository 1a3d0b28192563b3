-- What holds of each outcome of a program.
use Rattle.std.specs.Prelude.{◌≡◌, ℕ, zero, suc, ◌+◌, ◌++◌, [], ◌∷◌, List, Bool, true, false, cond, Some, refl}
use Rattle.std.proofs.Common.{sym, subst}
use Rattle.verbs.specs.Programs.{Prog, ret, ask, after, outcome_of, Outcomes}
use Rattle.pass_text.specs.Pass.{read_words}

-- one of two programs
pub either : {A : Type 0} (P : A → Type 0) (v : Bool) (x y : Prog A) → (v ≡ true → Outcomes P x) → (v ≡ false → Outcomes P y) → Outcomes P (cond v x y)
either P true x y h k = h refl
either P false x y h k = k refl

pub words : {A : Type 0} (P : A → Type 0) (block n at : ℕ) (ws : List ℕ) (go_on : List ℕ → Prog A) → ((ks : List ℕ) → Outcomes P (go_on ks)) → Outcomes P (read_words block n at ws go_on)
words P block zero at ws go_on h = h ws
words P block (suc n) at ws go_on h = λ w. words P block n (at + 1) (ws ++ w ∷ []) go_on h

-- nothing is asked of an outcome
pub any : {A : Type 0} (p : Prog A) → Outcomes (λ (a : A). Unit {0}) p
any (ret a) = tt
any (ask act k) = λ answer. any (k answer)

-- after an act the outcomes are among those before
pub outcomes-after : {A : Type 0} (P : A → Type 0) (p : Prog A) (answer : ℕ) → Outcomes P p → Outcomes P (after p answer)
outcomes-after P (ret a) answer h = h
outcomes-after P (ask act k) answer h = h answer

pub outcomes-fed : {A : Type 0} (P : A → Type 0) (p q : Prog A) (answer : ℕ) → q ≡ after p answer → Outcomes P p → Outcomes P q
outcomes-fed P p q answer e h = subst (λ x. Outcomes P x) (sym e) (outcomes-after P p answer h)

pub outcomes-told : {A : Type 0} (P : A → Type 0) (p : Prog A) (a : A) → outcome_of p ≡ Some a → Outcomes P p → P a
outcomes-told P (ret b) a e h = let same : b ≡ a = cc in subst (λ x. P x) same h
outcomes-told P (ask act k) a e h = absurd (cc)
