-- Calls as programs of verbs alone.
use Rattle.std.specs.Prelude.{◌≡◌, ℕ, suc, ◌<◌, ◌≤◌, ◌%◌, List, [], ◌∷◌, length, slice_get, Option, Some, None, IsSome, refl}
use Rattle.std.specs.Option.{option_to_list}
use Rattle.std.proofs.Common.{◌∙◌, sym, ap, subst, arith}
use Rattle.verb_log.specs.declared.entry.Verb.{Verb}
use Rattle.verbs.specs.Programs.{do_verb, ask_hash, Prog, ret, ask, Go, again, done, next_act, next_verb, asked, after, goes_on, answer_of}
use Rattle.world_texts.specs.Sorts.{chosen}
use Rattle.world_texts.specs.Texts.{placing, placed_part, whole, after_verb, questions_of}

module _ (S A : Type 0) (part : S → Prog (Go S A)) (part_asks : (x : S) → IsSome (next_verb (part x))) where
  -- what begins with a verb is its own whole
  verb_first : (hash : List ℕ → ℕ) (p : Prog (Go S A)) → IsSome (next_verb p) → goes_on (placed_part part hash) (placing hash p) ≡ placing hash p
  verb_first hash (ret a) h = absurd (cc)
  verb_first hash (ask (do_verb block v) k) h = refl
  verb_first hash (ask (ask_hash key) k) h = absurd (cc)

  pub whole-goes_on : (hash : List ℕ → ℕ) (p : Prog (Go S A)) → whole part hash (goes_on part p) ≡ whole part hash p
  unfolding whole
  whole-goes_on hash (ret (again x)) = verb_first hash (part x) (part_asks x)
  whole-goes_on hash (ret (done d)) = refl
  whole-goes_on hash (ask act k) = refl

  -- a question for a hash leaves the whole
  pub told_whole : (hash : List ℕ → ℕ) (p : Prog (Go S A)) (key : List ℕ) (h : ℕ) → asked p ≡ Some key → h ≡ hash key → whole part hash (goes_on part (after p h)) ≡ whole part hash p
  unfolding whole
  told_whole hash p key h e same = whole-goes_on hash (after p h) ∙ by p e
    where
      by : (q : Prog (Go S A)) → asked q ≡ Some key → whole part hash (after q h) ≡ whole part hash q
      by (ret a) e = absurd (cc)
      by (ask (do_verb block v) k) e = absurd (cc)
      by (ask (ask_hash other) k) e = ap (λ x. goes_on (placed_part part hash) (placing hash (k x))) (same ∙ ap hash (sym (is e)))
        where
          is : Some other ≡ Some key → other ≡ key
          is e = cc

  -- and fewer are left
  pub told_fewer : (hash : List ℕ → ℕ) (p : Prog (Go S A)) (key : List ℕ) (h : ℕ) → asked p ≡ Some key → h ≡ hash key → questions_of hash (goes_on part (after p h)) < questions_of hash p
  told_fewer hash (ret a) key h e same = absurd (cc)
  told_fewer hash (ask (do_verb block v) k) key h e same = absurd (cc)
  told_fewer hash (ask (ask_hash other) k) key h e same =
      subst (λ x. questions_of hash (goes_on part (k x)) < suc (questions_of hash (k (hash other)))) (ap hash (is e) ∙ sym same) (few (k (hash other)))
    where
      is : Some other ≡ Some key → other ≡ key
      is e = cc

      none : (q : Prog (Go S A)) → IsSome (next_verb q) → questions_of hash q ≡ 0
      none (ret a) f = absurd (cc)
      none (ask (do_verb block v) g) f = refl
      none (ask (ask_hash x) g) f = absurd (cc)

      few : (q : Prog (Go S A)) → questions_of hash (goes_on part q) < suc (questions_of hash q)
      few (ret (again x)) = let n = none (part x) (part_asks x) in omega arith
      few (ret (done d)) = omega arith
      few (ask act g) = omega arith

  -- and an answer to a verb goes on with it
  pub fed_whole : (hash : List ℕ → ℕ) (p : Prog (Go S A)) (word : ℕ) → IsSome (next_verb p) → whole part hash (goes_on part (after p word)) ≡ after_verb part hash (whole part hash p) word
  unfolding whole after_verb
  fed_whole hash p word h = whole-goes_on hash (after p word) ∙ by p h
    where
      by : (q : Prog (Go S A)) → IsSome (next_verb q) → whole part hash (after q word) ≡ after_verb part hash (whole part hash q) word
      by (ret a) e = absurd (cc)
      by (ask (do_verb block v) k) e = refl
      by (ask (ask_hash other) k) e = absurd (cc)

-- of a machine that waits for no hash the whole has the same next verb and the same answer
pub whole_verb : {S A : Type 0} (part : S → Prog (Go S A)) (hash : List ℕ → ℕ) (p : Prog (Go S A)) → asked p ≡ None → (answer_of p ≡ None → IsSome (next_act p)) → next_verb (whole part hash p) ≡ next_verb p
unfolding whole
whole_verb {S} {A} part hash (ret (again x)) e f = let h : IsSome (next_act {A = Go S A} (ret (again x))) = f refl in absurd (cc)
whole_verb part hash (ret (done d)) e f = refl
whole_verb part hash (ask (do_verb block v) k) e f = refl
whole_verb part hash (ask (ask_hash other) k) e f = absurd (cc)

pub whole_answer : {S A : Type 0} (part : S → Prog (Go S A)) (hash : List ℕ → ℕ) (p : Prog (Go S A)) → asked p ≡ None → (answer_of p ≡ None → IsSome (next_act p)) → answer_of (whole part hash p) ≡ answer_of p
unfolding whole
whole_answer {S} {A} part hash (ret (again x)) e f = let h : IsSome (next_act {A = Go S A} (ret (again x))) = f refl in absurd (cc)
whole_answer part hash (ret (done d)) e f = refl
whole_answer part hash (ask (do_verb block v) k) e f = refl
whole_answer part hash (ask (ask_hash other) k) e f = absurd (cc)

-- of one verb that is outstanding each choice names it
some_one : (o : Option Verb) → 1 ≤ length (option_to_list o) → IsSome o
some_one None h = absurd (omega arith)
some_one (Some v) h = refl

pub some_verb : {S A : Type 0} (part : S → Prog (Go S A)) (hash : List ℕ → ℕ) (p : Prog (Go S A)) → asked p ≡ None → (answer_of p ≡ None → IsSome (next_act p)) → 1 ≤ length (option_to_list (next_verb (whole part hash p))) → IsSome (next_verb p)
some_verb part hash p e f h = some_one (next_verb p) (subst (λ o. 1 ≤ length (option_to_list o)) (whole_verb part hash p e f) h)

pub one_chosen : (o : Option Verb) (v : Verb) (choice : ℕ) → o ≡ Some v → Some v ≡ chosen (option_to_list o) choice
one_chosen None v choice e = absurd (cc)
one_chosen (Some u) v choice e = let first : choice % 1 ≡ 0 = omega arith in sym (ap (slice_get (u ∷ [])) first ∙ e)

pub not_some : {X : Type 0} (o : Option X) → o ≡ None → IsSome o → ⊥
not_some None e h = absurd (cc)
not_some (Some x) e h = absurd (cc)
