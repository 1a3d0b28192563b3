-- One call of a client on running words.
use Rattle.std.specs.Prelude.{◌≡◌, ℕ, ◌<◌, ◌≤◌, List, ◌++◌, length, Option, None, Some}
use Rattle.key_hash.specs.Placing.{placed}
use Rattle.map_model.specs.declared.calls.Call.{Call}
use Rattle.verb_log.specs.declared.entry.Verb.{Verb}
use Rattle.verbs.specs.Programs.{answer_of}
use Rattle.verbs.specs.Logs.{Begins}
use Rattle.race_laws.specs.Legal.{IsLegal}
use Rattle.client_seat.specs.Traces.{verbs_in}
use Rattle.client_seat.specs.Seated.{Seated}
use Rattle.call_texts.specs.State.{State, CallEnd, state_after}
use Rattle.call_machine.specs.declared.answer.Answer.{Answer}
use Rattle.call_machine.specs.Tasks.{answer_in}
use Rattle.loss_laws.specs.Again.{ReplyLost}
use Rattle.world_texts.specs.Bound.{most_acts}
use Rattle.world_texts.specs.Fits.{Fits}
use Rattle.running_client.specs.Traces.{Text, begun, RanCall, lost_in}
use Rattle.running_client.specs.Replies.{MayReply}
use Rattle.running_client.specs.Points.{MadeNone, Replied}

-- the call was answered: it led from one seat and state of its client to another
pub record Called (seat : Seated) (state : State) (call : Call) (next : Seated) (kept : State) (a : Answer) : Type 0 where
  -- it is the same client's seat
  pub home : next.home ≡ seat.home
  pub client : next.client ≡ seat.client
  -- these verbs with these answers it did, no more than the bound, and they stand at the end of the seat's trace
  pub trace : List (Verb × ℕ)
  pub told : verbs_in next.trace ≡ verbs_in seat.trace ++ trace
  pub few : length trace ≤ most_acts state call
  -- they are those of the call's text from what the client kept, to its end
  pub left : Text
  pub ran : RanCall (placed seat.home.setting.listed) (begun (placed seat.home.setting.listed) state call) trace left
  pub come_to : CallEnd
  pub ended : answer_of left ≡ Some come_to
  -- the answer is the text's, and so is what the client keeps, which fits the new front
  pub answer : a ≡ answer_in come_to
  pub keeps : kept ≡ state_after state come_to
  pub fits : Fits seat.home.setting next.front seat.client kept
  -- the reply is one of the call's, after as many lost swaps as it tells, and right between the two fronts
  pub lost : ReplyLost (lost_in trace) a.reply
  pub kind : MayReply call a.reply a.from a.to
  pub replied : Replied seat.home.setting seat.client state call seat.front next.front a

-- the call was left with no answer: it led from one seat of its client to another, and has changed nothing in the map
pub record Stopped (seat : Seated) (state : State) (call : Call) (next : Seated) : Type 0 where
  pub home : next.home ≡ seat.home
  pub client : next.client ≡ seat.client
  -- its verbs so far are those of its text, and stand at the end of the seat's trace
  pub trace : List (Verb × ℕ)
  pub told : verbs_in next.trace ≡ verbs_in seat.trace ++ trace
  pub few : length trace < most_acts state call
  pub left : Text
  pub ran : RanCall (placed seat.home.setting.listed) (begun (placed seat.home.setting.listed) state call) trace left
  pub goes : answer_of left ≡ None
  pub begins : Begins seat.front next.front
  pub legal : IsLegal seat.home.setting next.front
  pub none : MadeNone seat.home.setting seat.client seat.front next.front

-- so many verbs of the call were done, at most so many as it might: it was answered with them, or left after just as many
abbrev pub CameTo : Seated → State → Call → ℕ → Seated → State → Option Answer → ℕ → Type 0
CameTo seat state call most next kept (Some a) verbs = (x : Called seat state call next kept a) × (length x.trace ≡ verbs) × (verbs ≤ most)
CameTo seat state call most next kept None verbs = (x : Stopped seat state call next) × (length x.trace ≡ verbs) × (verbs ≡ most)
