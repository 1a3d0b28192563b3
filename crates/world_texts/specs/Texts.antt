-- Calls as programs made of parts, verb by verb: each question for a hash is answered, and where a part has come to its end the
-- next begins. Of such a call one verb is outstanding.
use Rattle.std.specs.Prelude.{ℕ, suc, List}
use Rattle.std.specs.Option.{option_to_list}
use Rattle.map_model.specs.Machine.{key_of}
use Rattle.verbs.specs.Programs.{do_verb, ask_hash, Prog, ret, ask, Go, next_verb, block_of, asked, after, goes_on, answer_of}
use Rattle.call_texts.specs.State.{CallEnd, Stage}
use Rattle.call_texts.specs.Text.{part_of, begin_call}
use Rattle.world_texts.specs.Sorts.{Sort, Kind}

-- each question for a hash answered
abbrev pub placing : {A : Type 0} → (List ℕ → ℕ) → Prog A → Prog A
placing hash (ret a) = ret a
placing hash (ask (do_verb block verb) k) = ask (do_verb block verb) (λ word. placing hash (k word))
placing hash (ask (ask_hash key) k) = placing hash (k (hash key))

abbrev pub placed_part : {S A : Type 0} → (S → Prog (Go S A)) → (List ℕ → ℕ) → S → Prog (Go S A)
placed_part part hash s = placing hash (part s)

-- a program, and the part that it starts
unfoldable pub whole : {S A : Type 0} → (S → Prog (Go S A)) → (List ℕ → ℕ) → Prog (Go S A) → Prog (Go S A)
whole part hash p = goes_on (placed_part part hash) (placing hash p)

-- what is left after the answer to a verb
unfoldable pub after_verb : {S A : Type 0} → (S → Prog (Go S A)) → (List ℕ → ℕ) → Prog (Go S A) → ℕ → Prog (Go S A)
after_verb part hash p word = goes_on (placed_part part hash) (after p word)

-- how many questions for hashes stand before the next verb or the end
abbrev pub questions_of : {A : Type 0} → (List ℕ → ℕ) → Prog A → ℕ
questions_of hash (ret a) = 0
questions_of hash (ask (do_verb block verb) k) = 0
questions_of hash (ask (ask_hash key) k) = suc (questions_of hash (k (hash key)))

-- the calls of a client, verb by verb
abbrev pub one_by_one : Sort
one_by_one = record {
  Text = Prog (Go Stage CallEnd);
  begun = λ hash state call. whole part_of hash (begin_call state (hash (key_of call)) call);
  outstanding = λ p. option_to_list (next_verb p);
  block = λ p i. block_of p;
  completed = λ hash p i word. after_verb part_of hash p word;
  answer = answer_of;
}

-- machines that mean what is left of the present part of a call
abbrev pub verb_by_verb : {M : Type 0} → (M → Prog (Go Stage CallEnd)) → Kind M
verb_by_verb rest = record {
  sort = one_by_one;
  wants = λ m. asked (rest m);
  text = λ hash m. whole part_of hash (rest m);
  questions = λ hash m. questions_of hash (rest m);
}
