-- What a worker does and tells.
use Rattle.std.specs.Prelude.{◌≡◌, ℕ, ◌+◌, ◌-◌, ◌<◌, ◌≤◌, List, [], ◌∷◌, ◌++◌, length, slice_get, Option, Some, None, ◌⊎◌, if◌then◌else◌}
use Rattle.map_model.specs.declared.calls.Call.{Call}
use Rattle.map_model.specs.Machine.{is_change, is_quiet}
use Rattle.play_report.specs.declared.report.Line.{Line}
use Rattle.play_report.specs.declared.report.Tag.{Tag}
use Rattle.play_report.specs.declared.report.Tag.TheVariants.{Changed, Read, Nothing}
use Rattle.script_value.specs.Content.{ScriptValue, calls_at, stop_at}
use Rattle.client_seat.specs.Seated.{Home, Seated}
use Rattle.call_texts.specs.State.{State}
use Rattle.call_machine.specs.declared.answer.Answer.{Answer}
use Rattle.call_machine.specs.Fresh.{fresh_state}
use Rattle.running_client.specs.Called.{Stopped}
use Rattle.run_laws.specs.Lives.{Lives}

-- a change tells the blocks before and after it, any other reply of the map the block read, and a refusal none
abbrev pub tag_of : Answer → Tag
tag_of a = if is_change a.reply then Changed a.from a.to else (if is_quiet a.reply then Read a.to else Nothing)

-- the line of a client's call of this number, answered or open
abbrev pub line_of : ℕ → ℕ → Option Answer → Line
line_of client number (Some a) = record { client = client; number = number; reply = Some a.reply; tag = tag_of a }
line_of client number None = record { client = client; number = number; reply = None; tag = Nothing }

-- the lines of answered calls, the first of which has this number
abbrev pub lines_of : ℕ → ℕ → List Answer → List Line
lines_of client number [] = []
lines_of client number (a ∷ answers) = line_of client number (Some a) ∷ lines_of client (number + 1) answers

-- so many verbs are left to a client that stops, after so many more
abbrev pub less_by : Option ℕ → ℕ → Option ℕ
less_by None verbs = None
less_by (Some left) verbs = Some (left - verbs)

-- where a client's answered calls have led to `last`, it has come to `next` and tells these lines more: none, and it has done no verb
-- since; or that of its next call, of which it has done a verb or more and which it has left
pub data Tells (calls : List Call) (answered : ℕ) (last : Seated) (kept : State) : Seated → List Line → Type 0 where
  all_told : Tells calls answered last kept last []
  one_open : (call : Call) (next : Seated) → slice_get calls answered ≡ Some call → Stopped last kept call next → length last.trace < length next.trace
      → Tells calls answered last kept next (line_of last.client (answered + 1) None ∷ [])

-- A client has done its calls, from a seat that has done no verb: it has answered them all, or has done as many verbs as its stop
-- says, and no more. Its lines are those of its answered calls, and that of an open one.
pub record HasDone (calls : List Call) (stop : Option ℕ) (begin : Seated) (first : State) (next : Seated) (lines : List Line) : Type 0 where
  pub answered : ℕ
  pub last : Seated
  pub kept : State
  pub answers : List Answer
  pub lives : Lives calls begin first answered last kept answers
  pub more : List Line
  pub tells : Tells calls answered last kept next more
  pub told : lines ≡ lines_of begin.client 1 answers ++ more
  pub halted : (answered ≡ length calls) × (more ≡ []) ⊎ (stop ≡ Some (length next.trace))
  pub most : (n : ℕ) → stop ≡ Some n → length next.trace ≤ n

-- a worker at this seat, of a client of the script, may begin
pub record MayWork (home : Home) (script : ScriptValue) (seat : Seated) : Type 0 where
  pub home_is : seat.home ≡ home
  pub fresh : seat.trace ≡ []
  pub client : seat.client < length script.content.clients

-- it has played the calls of its client, and its front was legal
pub record HasWorked (home : Home) (script : ScriptValue) (seat next : Seated) (lines : List Line) : Type 0 where
  pub home_is : next.home ≡ home
  pub client : next.client ≡ seat.client
  pub done : HasDone (calls_at script.content seat.client) (stop_at script.content seat.client) seat (fresh_state home.setting.geometry seat.client script.tries) next lines
