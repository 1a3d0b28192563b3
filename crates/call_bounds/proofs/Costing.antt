-- Programs counted with what their outcomes cost later: choices, and one program after another.
use Rattle.std.specs.Prelude.{◌≡◌, ℕ, zero, suc, ◌+◌, ◌≤◌, Bool, true, false, cond, List, [], ◌∷◌, ◌++◌, refl}
use Rattle.std.proofs.Common.{arith}
use Rattle.verbs.specs.Programs.{Prog, ret, ask, bind, Costs}
use Rattle.verbs.proofs.Progs.{Costs-more}
use Rattle.pass_text.specs.Pass.{read_words}

-- one of two programs
pub either : {A : Type 0} (cost : A → ℕ) (n : ℕ) (v : Bool) (p q : Prog A) → (v ≡ true → Costs cost n p) → (v ≡ false → Costs cost n q) → Costs cost n (cond v p q)
either cost n true p q h k = h refl
either cost n false p q h k = k refl

-- the words of a block are read
pub words-costs : {A : Type 0} (cost : A → ℕ) (block n most total at : ℕ) (ws : List ℕ) (go_on : List ℕ → Prog A) → n + most ≤ total → ((ks : List ℕ) → Costs cost most (go_on ks)) → Costs cost total (read_words block n at ws go_on)
words-costs cost block zero most total at ws go_on le h = Costs-more cost most total (go_on ws) (omega arith) (h ws)
words-costs cost block (suc n) most zero at ws go_on le h = absurd (omega arith)
words-costs cost block (suc n) most (suc total) at ws go_on le h = λ w. words-costs cost block n most total (at + 1) (ws ++ w ∷ []) go_on (omega arith) h

-- one program, and then what follows its outcome, which may cost so much and m more
pub costs_then : {A B : Type 0} (first : A → ℕ) (cost : B → ℕ) (n m : ℕ) (p : Prog A) (f : A → Prog B) → Costs first n p → ((a : A) → Costs cost (first a + m) (f a)) → Costs cost (n + m) (bind p f)
costs_then first cost n m (ret a) f h g = Costs-more cost (first a + m) (n + m) (f a) (omega (arith, h)) (g a)
costs_then first cost zero m (ask act k) f h g = absurd h
costs_then first cost (suc n) m (ask act k) f h g = Costs-more cost (suc (n + m)) (suc n + m) (bind (ask act k) f) (omega arith) (λ answer. costs_then first cost n m (k answer) f (h answer) g)
