-- The lost swaps of a call in a world.
use Rattle.std.specs.Prelude.{◌≡◌, ℕ, List, Some}
use Rattle.map_model.specs.declared.calls.Call.{Call}
use Rattle.verb_log.specs.declared.entry.Verb.{Verb}
use Rattle.call_texts.specs.State.{State, CallEnd}
use Rattle.loss_laws.specs.Loses.{lost_by}
use Rattle.loss_laws.specs.Again.{ReplyLost}
use Rattle.world_texts.specs.Sorts.{Sort, chosen, onward}

-- what is left of a call after verbs of it, each one that was outstanding, of whose swaps so many were lost
pub data Left (k : Sort) (hash : List ℕ → ℕ) (p : k.Text) : ℕ → k.Text → Type 0 where
  left_none : Left k hash p 0 p
  left_more : {n : ℕ} {q : k.Text} (choice word : ℕ) (verb : Verb) → Left k hash p n q → chosen (k.outstanding q) choice ≡ Some verb → Left k hash p (lost_by verb word n) (onward k hash q choice word)

-- a call that answers Again has lost as many swaps as it tells
abbrev pub AgainIsLost : Sort → Type 0
AgainIsLost k = (hash : List ℕ → ℕ) (state : State) (call : Call) (n : ℕ) (q : k.Text) (d : CallEnd) → Left k hash (k.begun hash state call) n q → k.answer q ≡ Some d → ReplyLost n d.reply
