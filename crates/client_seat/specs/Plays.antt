-- What a step on the words tells of the view before and the view after.
use Rattle.std.specs.Prelude.{◌≡◌, ℕ, ◌<◌, List, [], ◌∷◌, ◌++◌, length}
use Rattle.std.specs.List.{AllByRecursion}
use Rattle.atomic_table.specs.Table.{Me, Step as TableStep}
use Rattle.verb_log.specs.declared.entry.Verb.{Verb}
use Rattle.verb_log.specs.declared.entry.Verb.TheVariants.{Read, Write, Swap}
use Rattle.verbs.specs.Logs.{Entries, MayStand, Begins}
use Rattle.verbs.specs.Terms.{Step}
use Rattle.race_laws.specs.Setting.{Setting}
use Rattle.race_laws.specs.Legal.{MayFollow}
use Rattle.log_facts.specs.Among.{among}
use Rattle.client_seat.specs.declared.view.Deed.{Deed}
use Rattle.client_seat.specs.declared.view.View.{View}
use Rattle.client_seat.specs.Traces.{IsTrace}
use Rattle.client_seat.specs.Views.{seat_view, client_of, deeds_of}

-- what a seat keeps: its front is legal, and its trace is that of its front
pub record IsSound (s : Setting) (n : ℕ) (front : Entries) (c : ℕ) (deeds : List Deed) : Type 0 where
  pub legal : MayStand (MayFollow s) front
  pub trace : IsTrace s.geometry front c deeds
  pub few : c < n

-- one verb: others lengthened the front, the verb was done there, and it stands in the trace at that position
pub record Told (verb : Verb) (v : View) (answer : ℕ) (w : View) : Type 0 where
  pub next : Entries
  pub step : Step (among v.setting (client_of v)) v.front verb next answer
  pub begins : Begins v.front next
  pub is : w ≡ seat_view v.setting v.seats next (client_of v) (deeds_of v ++ record { verb = verb; answer = answer; position = length step.seen } ∷ [])
  pub sound : IsSound v.setting v.seats next (client_of v) (deeds_of v ++ record { verb = verb; answer = answer; position = length step.seen } ∷ [])

abbrev pub Loaded : TableStep ℕ → Me ℕ View → ℕ → Me ℕ View → Type 0
Loaded s me found new = Told (Read s.word) me.0 found new.0 × (new.1 ≡ [])

abbrev pub Stored : TableStep ℕ → Me ℕ View → ℕ → Me ℕ View → Type 0
Stored s me found new = Told (Write s.word s.first) me.0 0 new.0 × (new.1 ≡ [])

abbrev pub Swapped : TableStep ℕ → Me ℕ View → ℕ → Me ℕ View → Type 0
Swapped s me found new = Told (Swap s.word s.first s.second) me.0 found new.0 × (new.1 ≡ [])

-- no verb: the front is lengthened, and what was met begins it
pub record Met (v w : View) : Type 0 where
  pub next : Entries
  pub is : w ≡ seat_view v.setting v.seats next (client_of v) (deeds_of v)
  pub sound : IsSound v.setting v.seats next (client_of v) (deeds_of v)
  pub met : AllByRecursion (λ m. Begins m next) v.met

abbrev pub Compared : TableStep ℕ → Me ℕ View → ℕ → Me ℕ View → Type 0
Compared s me found new = Met me.0 new.0 × (new.1 ≡ [])
