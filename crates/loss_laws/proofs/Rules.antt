-- Rules for counting lost swaps.
use Rattle.std.specs.Prelude.{◌≡◌, ℕ, zero, suc, ◌+◌, ◌≤◌, ◌==◌, Bool, true, false, cond, List, [], ◌∷◌, ◌++◌, None, Option, refl}
use Rattle.std.proofs.Common.{arith}
use Rattle.verb_log.specs.declared.entry.Verb.{Verb}
use Rattle.verb_log.specs.declared.entry.Verb.TheVariants.{Read, Write, Swap}
use Rattle.verbs.specs.Programs.{Prog, ret, ask, do_verb, ask_hash, bind, mapped}
use Rattle.pass_text.specs.Pass.{read_words}
use Rattle.loss_laws.specs.Loses.{lost_by, Loses}

-- more lost swaps do as well
abbrev pub Grows : {A : Type 0} → (ℕ → A → Type 0) → Type 0
Grows {A} E = (n m : ℕ) (a : A) → n ≤ m → E n a → E m a

least_lost : (v : Verb) (word n : ℕ) → n ≤ lost_by v word n
least_lost (Read at) word n = omega arith
least_lost (Write at x) word n = omega arith
least_lost (Swap at old new) word n = by (word == old)
  where
    by : (b : Bool) → n ≤ cond b n (suc n)
    by true = omega arith
    by false = omega arith

lost_more : (v : Verb) (word n m : ℕ) → n ≤ m → lost_by v word n ≤ lost_by v word m
lost_more (Read at) word n m h = h
lost_more (Write at x) word n m h = h
lost_more (Swap at old new) word n m h = by (word == old)
  where
    by : (b : Bool) → cond b n (suc n) ≤ cond b m (suc m)
    by true = h
    by false = omega arith

pub loses_more : {A : Type 0} (E : ℕ → A → Type 0) → Grows E → (n m : ℕ) (p : Prog A) → n ≤ m → Loses E n p → Loses E m p
loses_more E g n m (ret a) h l = g n m a h l
loses_more E g n m (ask (do_verb block verb) k) h l = λ word. loses_more E g (lost_by verb word n) (lost_by verb word m) (k word) (lost_more verb word n m h) (l word)
loses_more E g n m (ask (ask_hash key) k) h l = λ hash. loses_more E g n m (k hash) h (l hash)

-- where a lost swap does not count
pub after_verb : {A : Type 0} (E : ℕ → A → Type 0) → Grows E → (n : ℕ) (block : Option ℕ) (verb : Verb) (k : ℕ → Prog A) → ((word : ℕ) → Loses E n (k word)) → Loses E n (ask (do_verb block verb) k)
after_verb E g n block verb k h = λ word. loses_more E g n (lost_by verb word n) (k word) (least_lost verb word n) (h word)

-- where it does
pub counted : {A : Type 0} (E : ℕ → A → Type 0) (n at old new : ℕ) (won : Prog A) (lost : ℕ → Prog A) → Loses E n won → ((found : ℕ) → Loses E (suc n) (lost found)) → Loses E n (ask (do_verb None (Swap at old new)) (λ found. cond (found == old) won (lost found)))
counted E n at old new won lost w l = λ found. by found (found == old)
  where
    by : (found : ℕ) (b : Bool) → Loses E (cond b n (suc n)) (cond b won (lost found))
    by found true = w
    by found false = l found

pub pick : {A : Type 0} (E : ℕ → A → Type 0) (n : ℕ) (v : Bool) (x y : Prog A) → (v ≡ true → Loses E n x) → (v ≡ false → Loses E n y) → Loses E n (cond v x y)
pick E n true x y h k = h refl
pick E n false x y h k = k refl

pub words : {A : Type 0} (E : ℕ → A → Type 0) (n block m at : ℕ) (ws : List ℕ) (go : List ℕ → Prog A) → ((us : List ℕ) → Loses E n (go us)) → Loses E n (read_words block m at ws go)
words E n block zero at ws go h = h ws
words E n block (suc m) at ws go h = λ w. words E n block m (at + 1) (ws ++ w ∷ []) go h

-- one program after another
pub in_turn : {A B : Type 0} (E : ℕ → A → Type 0) (F : ℕ → B → Type 0) (n : ℕ) (p : Prog A) (k : A → Prog B) → Loses E n p → ((m : ℕ) (a : A) → E m a → Loses F m (k a)) → Loses F n (bind p k)
in_turn E F n (ret a) k l h = h n a l
in_turn E F n (ask (do_verb block verb) q) k l h = λ word. in_turn E F (lost_by verb word n) (q word) k (l word) h
in_turn E F n (ask (ask_hash key) q) k l h = λ hash. in_turn E F n (q hash) k (l hash) h

-- .. after one whose lost swaps do not count
pub after_any : {A B : Type 0} (F : ℕ → B → Type 0) → Grows F → (n : ℕ) (p : Prog A) (k : A → Prog B) → ((a : A) → Loses F n (k a)) → Loses F n (bind p k)
after_any F g n (ret a) k h = h a
after_any F g n (ask (do_verb block verb) q) k h = after_verb F g n block verb (λ word. bind (q word) k) (λ word. after_any F g n (q word) k h)
after_any F g n (ask (ask_hash key) q) k h = λ hash. after_any F g n (q hash) k h

-- a program none of whose ends counts
pub any_ends : {A : Type 0} (E : ℕ → A → Type 0) (n : ℕ) (p : Prog A) → ((m : ℕ) (a : A) → E m a) → Loses E n p
any_ends E n (ret a) h = h n a
any_ends E n (ask (do_verb block verb) k) h = λ word. any_ends E (lost_by verb word n) (k word) h
any_ends E n (ask (ask_hash key) k) h = λ hash. any_ends E n (k hash) h

-- the swaps that were lost before were lost
pub since : {A : Type 0} (E : ℕ → A → Type 0) (p : Prog A) (n m : ℕ) → n ≤ m → Loses E m p → Loses (λ k a. E k a × (n ≤ k)) m p
since E (ret a) n m h l = (l, h)
since E (ask (do_verb block verb) k) n m h l = λ word. since E (k word) n (lost_by verb word m) (let x = least_lost verb word m in omega arith) (l word)
since E (ask (ask_hash key) k) n m h l = λ hash. since E (k hash) n m h (l hash)
