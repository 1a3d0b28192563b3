-- The calls of a client on running words, one after another.
use Rattle.std.specs.Prelude.{◌≡◌, ℕ, ◌+◌, List, [], ◌∷◌, ◌++◌, slice_get, Some}
use Rattle.map_model.specs.declared.calls.Call.{Call}
use Rattle.client_seat.specs.Seated.{Seated}
use Rattle.call_texts.specs.State.{State}
use Rattle.call_machine.specs.declared.answer.Answer.{Answer}
use Rattle.running_client.specs.Called.{Called}

-- a client that had this seat and kept this has made its first n calls: each led from where the one before left the client, its
-- verbs by its text, its answer right. Their answers, in order
pub data Lives (calls : List Call) (begin : Seated) (first : State) : ℕ → Seated → State → List Answer → Type 0 where
  lives_none : Lives calls begin first 0 begin first []
  lives_more : {n : ℕ} {seat : Seated} {state : State} {answers : List Answer} (call : Call) (next : Seated) (kept : State) (a : Answer)
      → Lives calls begin first n seat state answers → slice_get calls n ≡ Some call → Called seat state call next kept a
      → Lives calls begin first (n + 1) next kept (answers ++ a ∷ [])
