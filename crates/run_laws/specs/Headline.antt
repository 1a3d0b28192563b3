-- The records of a run on running words, from what its clients were answered and the log of the closed memory.
use Rattle.std.specs.Prelude.{◌≡◌, ℕ, ◌+◌, List, [], ◌∷◌, ◌++◌, length, map, reverse, slice_get, Some, ◌⊎◌}
use Rattle.std.specs.List.{AllByRecursion}
use Rattle.node_words.specs.declared.geometry.Geometry.{Geometry}
use Rattle.kv_block.specs.declared.changes.Change.{Change}
use Rattle.map_model.specs.declared.calls.Call.{Call}
use Rattle.map_model.specs.declared.records.Record.{Record}
use Rattle.map_model.specs.History as history
use Rattle.map_model.specs.Machine.{change_of}
use Rattle.verb_log.specs.Tables.{Past}
use Rattle.verb_log.specs.Changes.{changes_by}
use Rattle.verb_log.specs.Kinds.{kind}
use Rattle.verbs.specs.Logs.{Entries}
use Rattle.race_laws.specs.Setting.{Setting}
use Rattle.log_facts.specs.Among.{changes_of}
use Rattle.client_seat.specs.Seated.{Home, Seated}
use Rattle.client_seat.specs.Fronts.{Fronted, IsClosed}
use Rattle.call_texts.specs.State.{State}
use Rattle.call_machine.specs.declared.answer.Answer.{Answer}
use Rattle.running_client.specs.Points.{MadeNone}
use Rattle.run_records.specs.Lines.{Line, EachRecorded, joined}
use Rattle.run_laws.specs.Lives.{Lives}

-- the client of each change of a log
abbrev pub owners : Geometry → Past → List ℕ
owners g [] = []
owners g (e ∷ past) = owners g past ++ map (λ (c : Change). e.client) (changes_by g past e (kind g past e))

abbrev pub owners_of : Setting → Entries → List ℕ
owners_of s l = owners s.geometry (reverse l)

-- a client of a run: its calls, what the first of them were answered, and the seat that it has left
pub record Ran : Type 0 where
  pub calls : List Call
  pub answers : List Answer
  pub seat : Seated

-- the lines of answered calls
abbrev pub told_by : List Call → List Answer → List Line
told_by calls [] = []
told_by [] (a ∷ answers) = []
told_by (call ∷ calls) (a ∷ answers) = record { call = call; reply = a.reply } ∷ told_by calls answers

abbrev pub all_told : List Ran → List (List Line)
all_told all = map (λ (r : Ran). told_by r.calls r.answers) all

-- the client's calls were answered so, one after another; before the first of them, and after the last (in a call that was left, or in
-- calls that are not told), it made no change
pub record HasRun (home : Home) (r : Ran) : Type 0 where
  pub begin : Seated
  pub home_is : begin.home ≡ home
  pub client : begin.client ≡ r.seat.client
  pub none : MadeNone home.setting r.seat.client [] begin.front
  pub first : State
  pub many : ℕ
  pub last : Seated
  pub kept : State
  pub lives : Lives r.calls begin first many last kept r.answers
  pub left : MadeNone home.setting r.seat.client last.front r.seat.front

-- the seats have the numbers from this one on
abbrev pub AreCounted : ℕ → List Ran → Type 0
AreCounted c [] = Unit {0}
AreCounted c (r ∷ all) = (r.seat.client ≡ c) × AreCounted (c + 1) all

-- these are the records of what the clients were told, by the changes of this log
abbrev pub AreRecordsOf : Setting → Entries → List Ran → List (List Record) → Type 0
AreRecordsOf s log all records = EachRecorded (changes_of s log) (owners_of s log) 0 (all_told all) records

-- there are such records, and they stand in a legal history over the changes of the log
abbrev pub Stand : Setting → Entries → List Ran → Type 0
Stand s log all =
    ((records : List (List Record)) × AreRecordsOf s log all records)
    × ((records : List (List Record)) → AreRecordsOf s log all records → history.IsLegal (changes_of s log) (joined records))

-- of a memory that was closed, all of whose clients have run so
abbrev pub HeadlineForRun : Type 0
HeadlineForRun = (home : Home) (front : Fronted) (all : List Ran)
    → IsClosed home (map (λ (r : Ran). r.seat) all) front → home.seats ≡ length all → AreCounted 0 all → AllByRecursion (HasRun home) all → Stand home.setting front.entries all

-- of a memory with one seat more, whose client has run beside them and made no change; it has no records
abbrev pub HeadlineBeside : Type 0
HeadlineBeside = (home : Home) (front : Fronted) (all : List Ran) (last : Seated)
    → IsClosed home (map (λ (r : Ran). r.seat) all ++ last ∷ []) front → home.seats ≡ length all + 1 → last.client ≡ length all → AreCounted 0 all → AllByRecursion (HasRun home) all
    → MadeNone home.setting last.client [] last.front → Stand home.setting front.entries all

-- a call of one of the clients makes this change
abbrev pub IsAsked : List Ran → Change → Type 0
IsAsked [] change = ⊥
IsAsked (r ∷ all) change = ((i : ℕ) × (call : Call) × (slice_get r.calls i ≡ Some call) × (change_of call ≡ Some change)) ⊎ IsAsked all change

-- and each change of its log is that of a call of theirs
abbrev pub ChangesAreAsked : Type 0
ChangesAreAsked = (home : Home) (front : Fronted) (all : List Ran) (last : Seated)
    → IsClosed home (map (λ (r : Ran). r.seat) all ++ last ∷ []) front → home.seats ≡ length all + 1 → last.client ≡ length all → AreCounted 0 all → AllByRecursion (HasRun home) all
    → MadeNone home.setting last.client [] last.front → AllByRecursion (IsAsked all) (changes_of home.setting front.entries)
