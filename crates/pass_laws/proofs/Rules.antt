-- Safe programs by any rule of own entries: one after another, choices, reading a block, a weaker rule, and what is kept.
use Rattle.std.specs.Prelude.{◌≡◌, ◌≢◌, ℕ, Bool, true, false, cond, ◌∷◌, Option, Some, None, refl}
use Rattle.verb_log.specs.declared.entry.Entry.{Entry}
use Rattle.verb_log.specs.declared.entry.Verb.{Verb}
use Rattle.verb_log.specs.declared.entry.Verb.TheVariants.{Read, Write, Swap}
use Rattle.verb_log.specs.Tables.{Past, word_at}
use Rattle.verbs.specs.Programs.{do_verb, ask_hash, Prog, ret, ask, bind}
use Rattle.race_laws.specs.Setting.{Setting, hash}
use Rattle.race_laws.specs.Legal.{Legal}
use Rattle.log_facts.specs.Since.{change_in, Since, same, more}
use Rattle.pass_laws.specs.SafeIn.{Rule, MayBy, MayDoBy, SafeBy}

module _ (R : Rule) (s : Setting) (c : ℕ) where
  -- what may be done may be done as a verb alone
  pub by_verb : (q : Past) (block : Option ℕ) (verb : Verb) (P : Past → ℕ → Type 0) → MayDoBy R s c q block verb P → MayBy R s c q verb P
  by_verb q None verb P h = h
  by_verb q (Some block) verb P h = h.1

  -- the rule and what holds after each entry may be made other ones
  by_map : (T : Rule) → ((q : Past) (e : Entry) → R s c q e → T s c q e) → (q : Past) (verb : Verb) (P Q : Past → ℕ → Type 0) → ((n : Past) (answer : ℕ) → P n answer → Q n answer) → MayBy R s c q verb P → MayBy T s c q verb Q
  by_map T w q (Read at) P Q f h = f q (word_at s.geometry q at) h
  by_map T w q (Write at new) P Q f h = ((h.0.0, w q (change_in s.geometry c q at new) h.0.1), f _ 0 h.1)
  by_map T w q (Swap at old new) P Q f h = ((λ e. let x = h.0 e in ((x.0.0, w q (change_in s.geometry c q at new) x.0.1), f _ _ x.1)), (λ n. f q (word_at s.geometry q at) (h.1 n)))

  pub by_do_map : (T : Rule) → ((q : Past) (e : Entry) → R s c q e → T s c q e) → (q : Past) (block : Option ℕ) (verb : Verb) (P Q : Past → ℕ → Type 0) → ((n : Past) (answer : ℕ) → P n answer → Q n answer) → MayDoBy R s c q block verb P → MayDoBy T s c q block verb Q
  by_do_map T w q None verb P Q f h = by_map T w q verb P Q f h
  by_do_map T w q (Some block) verb P Q f h = (h.0, by_map T w q verb P Q f h.1)

  pub by_weaker : {A : Type 0} (T : Rule) → ((q : Past) (e : Entry) → R s c q e → T s c q e) → (q : Past) (p : Prog A) (End Weaker : Past → A → Type 0) → ((n : Past) (a : A) → End n a → Weaker n a) → SafeBy R s c q p End → SafeBy T s c q p Weaker
  by_weaker T w q (ret a) End Weaker f h = f q a h
  by_weaker T w q (ask (ask_hash key) k) End Weaker f h = by_weaker T w q (k (hash s key)) End Weaker f h
  by_weaker T w q (ask (do_verb block verb) k) End Weaker f h = (h.0, λ n l b. by_do_map T w n block verb (λ z answer. SafeBy R s c z (k answer) End) (λ z answer. SafeBy T s c z (k answer) Weaker) (λ z answer x. by_weaker T w z (k answer) End Weaker f x) (h.1 n l b))

  pub by_end : {A : Type 0} (q : Past) (p : Prog A) (End Weaker : Past → A → Type 0) → ((n : Past) (a : A) → End n a → Weaker n a) → SafeBy R s c q p End → SafeBy R s c q p Weaker
  by_end q p End Weaker f h = by_weaker R (λ z e x. x) q p End Weaker f h

  pub by_bind : {A B : Type 0} (q : Past) (p : Prog A) (f : A → Prog B) (End : Past → B → Type 0) → SafeBy R s c q p (λ n a. SafeBy R s c n (f a) End) → SafeBy R s c q (bind p f) End
  by_bind q (ret a) f End h = h
  by_bind q (ask (ask_hash key) k) f End h = by_bind q (k (hash s key)) f End h
  by_bind q (ask (do_verb block verb) k) f End h = (h.0, λ n l b. by_do_map R (λ z e x. x) n block verb (λ z answer. SafeBy R s c z (k answer) (λ y a. SafeBy R s c y (f a) End)) (λ z answer. SafeBy R s c z (bind (k answer) f) End) (λ z answer x. by_bind z (k answer) f End x) (h.1 n l b))

  -- a fact that others keep, and the client's legal entries by the rule
  pub record Holds (P : Past → Type 0) : Type 0 where
    pub others : (q : Past) (e : Entry) → Legal s (e ∷ q) → e.client ≢ c → P q → P (e ∷ q)
    pub own : (q : Past) (e : Entry) → Legal s (e ∷ q) → R s c q e → P q → P (e ∷ q)

  module _ (P : Past → Type 0) (f : Holds P) where
    pub holds_since : {p q : Past} → Since c p q → Legal s q → P p → P q
    holds_since same l h = h
    holds_since (more {q = q} e b o) l h = f.others q e l o (holds_since b l.0 h)

    pub by_kept : {A : Type 0} (p : Past) (prog : Prog A) (End : Past → A → Type 0) → P p → SafeBy R s c p prog End → SafeBy R s c p prog (λ q a. End q a × P q)
    by_kept p (ret a) End h x = (x, h)
    by_kept p (ask (ask_hash key) k) End h x = by_kept p (k (hash s key)) End h x
    by_kept p (ask (do_verb block verb) k) End h x = (x.0, λ q l b. by_act block verb q l (holds_since b l h) (x.1 q l b) (λ n answer pn y. by_kept n (k answer) End pn y))
      where
        by : (v : Verb) → (q : Past) → Legal s q → P q → MayBy R s c q v (λ n answer. SafeBy R s c n (k answer) End) → ((n : Past) (answer : ℕ) → P n → SafeBy R s c n (k answer) End → SafeBy R s c n (k answer) (λ q a. End q a × P q)) → MayBy R s c q v (λ n answer. SafeBy R s c n (k answer) (λ q a. End q a × P q))
        by (Read at) q l h y ih = ih q (word_at s.geometry q at) h y
        by (Write at new) q l h y ih = (y.0, ih (change_in s.geometry c q at new ∷ q) 0 (f.own q (change_in s.geometry c q at new) (l, y.0.0) y.0.1 h) y.1)
        by (Swap at old new) q l h y ih = ((λ e. let z = y.0 e in (z.0, ih (change_in s.geometry c q at new ∷ q) (word_at s.geometry q at) (f.own q (change_in s.geometry c q at new) (l, z.0.0) z.0.1 h) z.1)), (λ n. ih q (word_at s.geometry q at) h (y.1 n)))

        by_act : (of : Option ℕ) (v : Verb) → (q : Past) → Legal s q → P q → MayDoBy R s c q of v (λ n answer. SafeBy R s c n (k answer) End) → ((n : Past) (answer : ℕ) → P n → SafeBy R s c n (k answer) End → SafeBy R s c n (k answer) (λ q a. End q a × P q)) → MayDoBy R s c q of v (λ n answer. SafeBy R s c n (k answer) (λ q a. End q a × P q))
        by_act None v q l h y ih = by v q l h y ih
        by_act (Some of) v q l h y ih = (y.0, by v q l h y.1 ih)

  module _ {A : Type 0} (End : Past → A → Type 0) where
    pub by_cond : (q : Past) (test : Bool) (x y : Prog A) → (test ≡ true → SafeBy R s c q x End) → (test ≡ false → SafeBy R s c q y End) → SafeBy R s c q (cond test x y) End
    by_cond q true x y f h = f refl
    by_cond q false x y f h = h refl
