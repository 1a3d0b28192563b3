-- The traces of a client's calls, in their order.
use Rattle.std.specs.Prelude.{◌≡◌, ℕ, ◌+◌, List, [], ◌∷◌, ◌++◌, Bool, filter, ◌==◌, slice_get, Option, Some, None}
use Rattle.key_hash.specs.Placing.{placed}
use Rattle.map_model.specs.declared.calls.Call.{Call}
use Rattle.map_model.specs.declared.plans.Plan.{Plan}
use Rattle.verb_core.specs.declared.player.Player.{Player}
use Rattle.call_texts.specs.State.{State, CallEnd, state_after}
use Rattle.call_machine.specs.Fresh.{fresh_state}
use Rattle.loss_laws.specs.Loses.{lost_by}
use Rattle.loss_laws.specs.Again.{ReplyLost}
use Rattle.world_texts.specs.Sorts.{Kind, chosen, onward}
use Rattle.verb_core.specs.Play.{Going, Stage, stage, AreFresh, Play, Event, Turn}

-- any verbs of any clients, one after another
pub data Turns {M : Type 0} (k : Kind M) (w : Play M) : List Event → Play M → Type 0 where
  turns_none : Turns k w [] w
  turns_more : {es : List Event} {u v : Play M} (c : ℕ) (e : Event) (answered : Bool) → Turns k w es u → Turn k u c e answered v → Turns k w (es ++ e ∷ []) v

-- the events of a client
abbrev pub events_of : ℕ → List Event → List Event
events_of c es = filter (λ (e : Event). e.client == c) es

-- the trace of a call: it does these verbs, each one that was outstanding when it was done, is given these answers, and q is left
pub data RanCall {M : Type 0} (k : Kind M) (hash : List ℕ → ℕ) (p : k.sort.Text) : List Event → k.sort.Text → Type 0 where
  ran_none : RanCall k hash p [] p
  ran_more : {t : List Event} {q : k.sort.Text} (e : Event) → RanCall k hash p t q → chosen (k.sort.outstanding q) e.choice ≡ Some e.verb → RanCall k hash p (t ++ e ∷ []) (onward k.sort hash q e.choice e.answer)

-- the whole traces of the first n calls, one after another, each from the state that the one before left
pub data Answered {M : Type 0} (k : Kind M) (hash : List ℕ → ℕ) (calls : List Call) (first : State) : ℕ → State → List Event → Type 0 where
  answered_none : Answered k hash calls first 0 first []
  answered_more : {n : ℕ} {state : State} {before : List Event} (call : Call) (t : List Event) (q : k.sort.Text) (d : CallEnd) → Answered k hash calls first n state before → slice_get calls n ≡ Some call → RanCall k hash (k.sort.begun hash state call) t q → k.sort.answer q ≡ Some d
      → Answered k hash calls first (n + 1) (state_after state d) (before ++ t)

-- the trace of the call under way, where there is one
abbrev pub Opened : {M : Type 0} (k : Kind M) → (List ℕ → ℕ) → List Call → ℕ → State → Option (Going k.sort.Text) → List Event → Type 0
Opened k hash calls n state None t = t ≡ []
Opened k hash calls n state (Some going) t = (call : Call) × (slice_get calls n ≡ Some call) × RanCall k hash (k.sort.begun hash state call) t going.left

-- the verbs of a client are the traces of its calls in order, the last of them perhaps open
pub record Lived {M : Type 0} (k : Kind M) (hash : List ℕ → ℕ) (calls : List Call) (first : State) (trace : List Event) (now : Stage k.sort.Text) : Type 0 where
  pub before : List Event
  pub open_part : List Event
  pub all : trace ≡ before ++ open_part
  pub answered : Answered k hash calls first now.answered now.state before
  pub opened : Opened k hash calls now.answered now.state now.going open_part

-- in any run of verbs from the beginning, the verbs of each client are the traces of its calls in order
abbrev pub ClientTraces : {M : Type 0} → Kind M → Type 0
ClientTraces {M} k = (tries n : ℕ) (w v : Play M) (es : List Event) → AreFresh w.setting.geometry tries n w.players → Turns k w es v
    → (i : ℕ) (plan : Plan) (p : Player M) → slice_get w.plans i ≡ Some plan → slice_get v.players i ≡ Some p
    → Lived k (placed w.setting.listed) plan.calls.items (fresh_state w.setting.geometry i tries) (events_of i es) (stage k (placed w.setting.listed) p)

-- how many swaps of a trace were lost: each found another word than it expected
abbrev pub lost_from : ℕ → List Event → ℕ
lost_from n [] = n
lost_from n (e ∷ es) = lost_from (lost_by e.verb e.answer n) es

abbrev pub lost_in : List Event → ℕ
lost_in es = lost_from 0 es

-- the trace of a call that is answered with Again has lost as many swaps as it tells
abbrev pub AgainTraces : {M : Type 0} → Kind M → Type 0
AgainTraces {M} k = (hash : List ℕ → ℕ) (state : State) (call : Call) (t : List Event) (q : k.sort.Text) (d : CallEnd) → RanCall k hash (k.sort.begun hash state call) t q → k.sort.answer q ≡ Some d → ReplyLost (lost_in t) d.reply
