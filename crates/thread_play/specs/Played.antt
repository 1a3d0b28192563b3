-- The play of a script on threads, and what is told of it.
use Rattle.std.specs.Prelude.{◌≡◌, ℕ, ◌+◌, List, [], ◌∷◌, ◌++◌, length, map}
use Rattle.std.specs.List.{flat_map}
use Rattle.kv_block.specs.declared.changes.Change.{Change}
use Rattle.map_model.specs.Contents.{Contents}
use Rattle.map_model.specs.Machine.{map_at}
use Rattle.script_value.specs.Content.{ScriptValue, calls_at}
use Rattle.play_report.specs.declared.report.Line.{Line}
use Rattle.race_laws.specs.Legal.{IsLegal}
use Rattle.log_facts.specs.Among.{changes_of}
use Rattle.client_seat.specs.Seated.{Home, Seated, fresh_seat}
use Rattle.client_seat.specs.Fronts.{Fronted, IsClosed}
use Rattle.run_laws.specs.Headline.{Ran, Stand}
use Rattle.running_play.specs.Worked.{HasWorked}
use Rattle.running_play.specs.declared.worker.Worked.{Worked}
use Rattle.play_ends.specs.Settings.{setting_of}
use Rattle.play_ends.specs.Nexts.{nexts_after}

-- each client of the script, from this number on, has played its calls at the seat of its number, which was new, and has told these lines
abbrev pub HaveWorked : Home → ScriptValue → ℕ → List Worked → Type 0
HaveWorked home script c [] = Unit {0}
HaveWorked home script c (w ∷ all) = HasWorked home script (fresh_seat home c) w.seat w.lines.items × HaveWorked home script (c + 1) all

-- each of them with its calls, what they were answered, and the seat that it has left
abbrev pub ran_by : (home : Home) (script : ScriptValue) (c : ℕ) (all : List Worked) → HaveWorked home script c all → List Ran
ran_by home script c [] h = []
ran_by home script c (w ∷ all) h = record { calls = calls_at script.content c; answers = h.0.done.answers; seat = w.seat } ∷ ran_by home script (c + 1) all h.1

-- the seats that workers have left
abbrev pub seats_of : List Worked → List Seated
seats_of all = map (λ (w : Worked). w.seat) all

-- the lines of all workers, client by client
abbrev pub lines_by : List Worked → List Line
lines_by all = flat_map (λ (w : Worked). w.lines.items) all

-- the changes of the map in the log of a script's play
abbrev pub changes_by_play : ScriptValue → Fronted → List Change
changes_by_play script front = changes_of (setting_of script) front.entries

-- This is told of a play of the script on threads. There was a memory with the script's sizes and listed hashes, with a seat for
-- each client and one more; it is closed, so `front` is its log, which is legal, and keeps the trace of each number, as a badge does.
-- Each client has played its calls at its seat. The lines are those of the clients, in order; the records that they determine stand
-- in a legal history over the changes of the log; the map is that of all changes, and the next words are the log's.
pub record HasPlayed (script : ScriptValue) (lines : List Line) (pairs : Contents) (next : List ℕ) (front : Fronted) : Type 0 where
  pub home : Home
  pub setting : home.setting ≡ setting_of script
  pub seats : home.seats ≡ length script.content.clients + 1
  pub all : List Worked
  pub many : length all ≡ length script.content.clients
  pub worked : HaveWorked home script 0 all
  -- the seat more, which only looks
  pub last : Seated
  pub closed : IsClosed home (seats_of all ++ last ∷ []) front
  pub geometry : front.geometry ≡ script.geometry
  pub legal : IsLegal (setting_of script) front.entries
  pub lines_are : lines ≡ lines_by all
  pub stand : Stand (setting_of script) front.entries (ran_by home script 0 all worked)
  pub map_is : pairs ≡ map_at (changes_by_play script front) (length (changes_by_play script front))
  pub next_is : next ≡ nexts_after script.geometry front.entries
