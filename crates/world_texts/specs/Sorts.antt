-- What a world knows of a sort of calls, and of the machines that play them.
use Rattle.std.specs.Prelude.{ℕ, ◌%◌, List, length, slice_get, Option}
use Rattle.map_model.specs.declared.calls.Call.{Call}
use Rattle.verb_log.specs.declared.entry.Verb.{Verb}
use Rattle.call_texts.specs.State.{State, CallEnd}

-- the texts of a sort of calls, in which each question for a hash is answered
pub record Sort : Type 1 where
  -- what may be left of a call
  pub Text : Type 0
  -- a call of a client with this state, from its beginning
  pub begun : (List ℕ → ℕ) → State → Call → Text
  -- the verbs that are outstanding, in the order in which they were posted; none exactly where the call has ended
  pub outstanding : Text → List Verb
  -- the block of which the verb of this number among them reads a word; none where it reads none
  pub block : Text → ℕ → Option ℕ
  -- what is left after the answer to the verb of this number among them
  pub completed : (List ℕ → ℕ) → Text → ℕ → ℕ → Text
  -- what the call has come to
  pub answer : Text → Option CallEnd

-- what machines mean that play calls of a sort
pub record Kind (M : Type 0) : Type 1 where
  pub sort : Sort
  -- the key whose hash a machine waits for
  pub wants : M → Option (List ℕ)
  -- what is left of its call
  pub text : (List ℕ → ℕ) → M → sort.Text
  -- for how many hashes it asks, one after another, before it does a verb or ends
  pub questions : (List ℕ → ℕ) → M → ℕ

-- the number of the verb that a choice names
abbrev pub place_in : List Verb → ℕ → ℕ
place_in verbs choice = choice % length verbs

abbrev pub chosen : List Verb → ℕ → Option Verb
chosen verbs choice = slice_get verbs (place_in verbs choice)

-- what is left after the answer to the chosen verb
abbrev pub onward : (k : Sort) → (List ℕ → ℕ) → k.Text → ℕ → ℕ → k.Text
onward k hash t choice word = k.completed hash t (place_in (k.outstanding t) choice) word
