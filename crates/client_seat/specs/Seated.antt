-- What a clause sees of memories, seats and notes.
use Rattle.std.specs.Prelude.{◌≡◌, ℕ, List, [], ◌∷◌, ◌++◌, length, Option, Some, None, slice_get, map}
use Rattle.std.specs.List.{range_with_len}
use Rattle.atomic_table.specs.Table.{Me}
use Rattle.atomic_table.specs.Seated.{TableId}
use Rattle.verb_log.specs.declared.entry.Verb.{Verb}
use Rattle.verbs.specs.Logs.{Entries, Begins}
use Rattle.verbs.specs.Terms.{Terms, Step, Allowed}
use Rattle.race_laws.specs.Setting.{Setting}
use Rattle.log_facts.specs.Among.{among}
use Rattle.client_seat.specs.declared.view.Deed.{Deed}
use Rattle.client_seat.specs.declared.view.View.{View}
use Rattle.client_seat.specs.Traces.{verbs_in}
use Rattle.client_seat.specs.Views.{acting, seat_view, resting, deeds_of}
use Rattle.client_seat.specs.Plays.{IsSound}

-- which words these are, by what their logs are judged, and how many seats they have: a memory is seen as this
pub record Home : Type 0 where
  pub table : TableId
  pub setting : Setting
  pub seats : ℕ

-- a seat, and a node on it: the number that stands in its entries, the log that it has seen, and its verbs
pub record Seated : Type 0 where
  pub home : Home
  pub client : ℕ
  pub front : Entries
  pub trace : List Deed

-- what a node keeps over its verbs: which memory it is, and whose verbs
pub record Post : Type 0 where
  pub home : Home
  pub client : ℕ

-- the terms of a node's verbs: each entry keeps the log legal, and others lengthen it by entries of their own
abbrev pub terms_at : Post → Terms
terms_at post = among post.home.setting post.client

-- a note: a log that a seat had seen
pub record Noted : Type 0 where
  pub home : Home
  pub front : Entries

-- the seats of a memory: at each number the seat, where it is there
pub record Given : Type 0 where
  pub home : Home
  pub places : List (Option Seated)

abbrev pub home_of : TableId → View → Home
home_of table v = record { table = table; setting = v.setting; seats = v.seats }

abbrev pub seated : TableId → View → ℕ → Seated
seated table v c = record { home = home_of table v; client = c; front = v.front; trace = deeds_of v }

-- what holds of a seat's token: it has the view of a seat with this number
pub record IsSeat (table : TableId) (me : Me ℕ View) (c : ℕ) : Type 0 where
  pub is : me ≡ (seat_view me.0.setting me.0.seats me.0.front c (deeds_of me.0), [])
  pub sound : IsSound me.0.setting me.0.seats me.0.front c (deeds_of me.0)
  pub sized : table.words ≡ me.0.setting.geometry.words

abbrev pub noted_by : TableId → View → Noted
noted_by table v = record { home = home_of table v; front = v.front }

abbrev pub IsNote : Me ℕ View → Type 0
IsNote me = me ≡ (resting me.0.setting me.0.seats me.0.front [], [])

-- what holds of seats: one place for each number, and the token from which they were dealt, which has no number left
pub record IsGiven (table : TableId) (me : Me ℕ View) (places : List (Option Seated)) : Type 0 where
  pub is : me ≡ (acting me.0.setting me.0.seats [] [] [], [])
  pub all : length places ≡ me.0.seats
  pub numbered : (i : ℕ) (seat : Seated) → slice_get places i ≡ Some (Some seat) → (seat.client ≡ i) × (seat.home ≡ home_of table me.0)

-- a seat may do a verb: its entry may follow each log that others may have made of the front
abbrev pub Permits : Seated → Verb → Type 0
Permits seat verb = Allowed (among seat.home.setting seat.client) seat.front verb

-- a seat that has seen nothing
abbrev pub fresh_seat : Home → ℕ → Seated
fresh_seat home c = record { home = home; client = c; front = []; trace = [] }

-- all seats of a new memory
abbrev pub all_fresh : Home → Given
all_fresh home = record { home = home; places = map (λ c. Some (fresh_seat home c)) (range_with_len 0 home.seats) }

-- the seats that are there
abbrev pub seats_in : List (Option Seated) → List Seated
seats_in [] = []
seats_in (None ∷ places) = seats_in places
seats_in (Some seat ∷ places) = seat ∷ seats_in places

-- one verb of a seat
pub record Does (verb : Verb) (before : Seated) (answer : ℕ) (next : Seated) : Type 0 where
  pub step : Step (among before.home.setting before.client) before.front verb next.front answer
  pub begins : Begins before.front next.front
  pub trace : verbs_in next.trace ≡ verbs_in before.trace ++ (verb, answer) ∷ []
  pub home : next.home ≡ before.home
  pub client : next.client ≡ before.client
