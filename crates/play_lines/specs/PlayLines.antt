-- The lines of a play.
use Rattle.std.specs.Prelude.{◌≡◌, ℕ, ◌+◌, ◌<◌, ◌==◌, Bool, if◌then◌else◌, List, [], ◌∷◌, ◌++◌, length, take, map, filter, Option, Some, None, slice_get}
use Rattle.std.specs.List.{AllByRecursion}
use Rattle.std.specs.Option.{option_to_list}
use Rattle.item_list.specs.RoomyList.{RoomyList}
use Rattle.map_model.specs.declared.records.Record.{Record}
use Rattle.map_model.specs.History.{is_answer}
use Rattle.play_report.specs.declared.report.Line.{Line}
use Rattle.play_report.specs.declared.report.Tag.{Tag}
use Rattle.play_report.specs.declared.report.Tag.TheVariants.{Point, Nothing}

-- a reply of the map has its point, a refusal has no tag
abbrev pub point_tag : Record → Tag
point_tag r = if is_answer r then Point r.point else Nothing

-- the line of an answered call
abbrev pub answered_line : Record → Line
answered_line r = record { client = r.client; number = r.number; reply = Some r.reply; tag = point_tag r }

-- the line of a client's unfinished call, where it has one
abbrev pub open_lines : ℕ → Option ℕ → List Line
open_lines client None = []
open_lines client (Some number) = record { client = client; number = number; reply = None; tag = Nothing } ∷ []

-- a record of this client
abbrev pub is_of : ℕ → Record → Bool
is_of client r = r.client == client

-- the lines of a client: those of its records, in their order, and that of its unfinished call
abbrev pub client_lines : List Record → ℕ → Option ℕ → List Line
client_lines records client unfinished = map answered_line (filter (is_of client) records) ++ open_lines client unfinished

-- the lines of the clients from this place on, each with the number of its unfinished call
abbrev pub lines_from : ℕ → List (Option ℕ) → List Record → List Line
lines_from client [] records = []
lines_from client (number ∷ numbers) records = client_lines records client number ++ lines_from (client + 1) numbers records

-- the lines of a play, client by client
abbrev pub lines_of : List Record → List (Option ℕ) → List Line
lines_of records unfinished = lines_from 0 unfinished records

-- the records at these places
abbrev pub records_at : List Record → List ℕ → List Record
records_at records [] = []
records_at records (place ∷ places) = option_to_list (slice_get records place) ++ records_at records places

-- places that name the records of a client among the first so many
pub record AreOf (records : List Record) (count client : ℕ) (places : List ℕ) : Type 0 where
  pub within : AllByRecursion (λ place. place < length records) places
  pub named : records_at records places ≡ filter (is_of client) (take count records)

-- lists of such places, one for each client
abbrev pub AreListed : List Record → ℕ → List (RoomyList ℕ) → Type 0
AreListed records count lists = (client : ℕ) (own : RoomyList ℕ) → slice_get lists client ≡ Some own → AreOf records count client own.items

-- lists with no place
abbrev pub AreEmpty : List (RoomyList ℕ) → Type 0
AreEmpty lists = AllByRecursion (λ own. own.items ≡ []) lists
