-- What a machine that waits for no hash does next.
use Rattle.std.specs.Prelude.{◌≡◌, ℕ, List, ◌⊎◌, Option, Some, None, IsSome, option_map, refl}
use Rattle.std.proofs.Common.{◌∙◌, ap, inl, inr}
use Rattle.map_model.specs.declared.calls.Call.{Call}
use Rattle.map_model.specs.Machine.{key_of}
use Rattle.verb_log.specs.declared.entry.Verb.{Verb}
use Rattle.verbs.specs.Programs.{do_verb, ask_hash, ret, ask, again, done, Go, next_act, next_verb, asked, answer_of}
use Rattle.call_texts.specs.State.{State, CallEnd, Stage}
use Rattle.call_texts.specs.Text.{part_of, begin_call}
use Rattle.call_machine.specs.declared.answer.Answer.{Answer}
use Rattle.call_machine.specs.Tasks.{answer_in}
use Rattle.world_texts.specs.Texts.{whole}
use Rattle.world_texts.proofs.Wholes.{whole_answer}
use Rattle.running_client.specs.Traces.{Text, begun}

-- with no verb and no question it has answered
pub ended_text : (hash : List ℕ → ℕ) (p : Text) → asked p ≡ None → next_verb p ≡ None → (answer_of p ≡ None → IsSome (next_act p)) → IsSome (answer_of (whole part_of hash p))
unfolding whole
ended_text hash (ret (again x)) e n f = let h : IsSome (next_act {A = Go Stage CallEnd} (ret (again x))) = f refl in absurd (cc)
ended_text hash (ret (done d)) e n f = refl
ended_text hash (ask (do_verb block v) k) e n f = absurd (cc)
ended_text hash (ask (ask_hash key) k) e n f = absurd (cc)

-- with a verb it has not
pub verb_open : (p : Text) (verb : Verb) → next_verb p ≡ Some verb → answer_of p ≡ None
verb_open (ret a) verb e = absurd (cc)
verb_open (ask act k) verb e = refl

pub some_same : {X : Type 0} (a b : X) → Some a ≡ Some b → a ≡ b
some_same a b e = cc

-- what a machine answers is what its text has come to
pub record Told (p : Text) (machine : Text) (a : Answer) : Type 0 where
  pub come_to : CallEnd
  pub ended : answer_of p ≡ Some come_to
  pub machine_ended : answer_of machine ≡ Some come_to
  pub answer : a ≡ answer_in come_to

told_by : (p machine : Text) (a : Answer) (o : Option CallEnd) → answer_of machine ≡ o → answer_of p ≡ answer_of machine → Some a ≡ option_map answer_in o → Told p machine a
told_by p machine a None e same h = absurd (cc)
told_by p machine a (Some d) e same h = record { come_to = d; ended = same ∙ e; machine_ended = e; answer = some_same a (answer_in d) h }

pub told_answer : (hash : List ℕ → ℕ) (p : Text) (a : Answer) → asked p ≡ None → (answer_of p ≡ None → IsSome (next_act p)) → Some a ≡ option_map answer_in (answer_of p) → Told (whole part_of hash p) p a
told_answer hash p a e f h = told_by (whole part_of hash p) p a (answer_of p) refl (whole_answer part_of hash p e f) h

-- and where it has none, its text has come to none
pub told_none : (hash : List ℕ → ℕ) (p : Text) → asked p ≡ None → (answer_of p ≡ None → IsSome (next_act p)) → None ≡ option_map answer_in (answer_of p) → answer_of (whole part_of hash p) ≡ None
told_none hash p e f h = whole_answer part_of hash p e f ∙ none_by (answer_of p) h
  where
    none_by : (o : Option CallEnd) → None ≡ option_map answer_in o → o ≡ None
    none_by None h = refl
    none_by (Some d) h = absurd (cc)

-- what has not come to an end has done all the verbs that it might
pub halted_none : (n most : ℕ) (o : Option CallEnd) → o ≡ None → IsSome o ⊎ (n ≡ most) → n ≡ most
halted_none n most None e (inl h) = absurd (cc)
halted_none n most None e (inr h) = h
halted_none n most (Some d) e h = absurd (cc)

pub is_there : {X : Type 0} (o : Option X) (x : X) → o ≡ Some x → IsSome o
is_there None x e = absurd (cc)
is_there (Some y) x e = refl

-- a call at its beginning
pub begun_text : (hash : List ℕ → ℕ) (state : State) (call : Call) (p : Text) (h : ℕ) (key : List ℕ) → p ≡ begin_call state h call → h ≡ hash key → key ≡ key_of call → whole part_of hash p ≡ begun hash state call
begun_text hash state call p h key e is same = ap (whole part_of hash) (e ∙ ap (λ (n : ℕ). begin_call state n call) (is ∙ ap hash same))
