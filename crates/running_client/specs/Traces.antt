-- The trace of a call: its verbs with their answers.
use Rattle.std.specs.Prelude.{◌≡◌, ℕ, List, [], ◌∷◌, ◌++◌, Some}
use Rattle.map_model.specs.declared.calls.Call.{Call}
use Rattle.map_model.specs.Machine.{key_of}
use Rattle.verb_log.specs.declared.entry.Verb.{Verb}
use Rattle.verbs.specs.Programs.{Prog, Go, next_verb}
use Rattle.call_texts.specs.State.{State, CallEnd, Stage}
use Rattle.call_texts.specs.Text.{part_of, begin_call}
use Rattle.call_machine.specs.declared.call.CallMachine.{CallMachine}
use Rattle.call_machine.specs.CallRest.{call_rest}
use Rattle.loss_laws.specs.Loses.{lost_by}
use Rattle.world_texts.specs.Texts.{whole, after_verb}

-- what is left of a call, as a program of verbs: each hash that it asks for is told at once
abbrev pub Text : Type 0
Text = Prog (Go Stage CallEnd)

-- the whole call of a client that keeps this
abbrev pub begun : (List ℕ → ℕ) → State → Call → Text
begun hash state call = whole part_of hash (begin_call state (hash (key_of call)) call)

-- what a machine has left of its call
abbrev pub text : (List ℕ → ℕ) → CallMachine → Text
text hash machine = whole part_of hash (call_rest machine)

-- from p these verbs were done, each the one that was next, and were given these answers; q is left
pub data RanCall (hash : List ℕ → ℕ) (p : Text) : List (Verb × ℕ) → Text → Type 0 where
  ran_none : RanCall hash p [] p
  ran_more : {t : List (Verb × ℕ)} {q : Text} (verb : Verb) (word : ℕ) → RanCall hash p t q → next_verb q ≡ Some verb → RanCall hash p (t ++ (verb, word) ∷ []) (after_verb part_of hash q word)

-- how many swaps of a trace were lost, after so many: each found another word than it expected
abbrev pub lost_from : ℕ → List (Verb × ℕ) → ℕ
lost_from n [] = n
lost_from n (x ∷ trace) = lost_from (lost_by x.0 x.1 n) trace

abbrev pub lost_in : List (Verb × ℕ) → ℕ
lost_in trace = lost_from 0 trace
