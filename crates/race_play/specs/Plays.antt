-- The play of a script by its schedule, and what it leaves.
use Rattle.std.specs.Prelude.{◌≡◌, ℕ, List, [], length, map, None}
use Rattle.std.specs.List.{AllByRecursion, flat_map}
use Rattle.kv_block.specs.declared.changes.Change.{Change}
use Rattle.map_model.specs.Contents.{Contents}
use Rattle.map_model.specs.Machine.{map_at}
use Rattle.map_model.specs.declared.plans.Item.{Item}
use Rattle.log_facts.specs.Among.{changes_of}
use Rattle.client_seat.specs.Fronts.{Fronted}
use Rattle.call_machine.specs.declared.call.CallMachine.{CallMachine}
use Rattle.verb_core.specs.Machine.{call_kind}
use Rattle.verb_core.specs.Play.{Play, Event, AreFresh, IsLegalPlay, unfinished_of}
use Rattle.verb_core.specs.Schedules.{Plays}
use Rattle.script_value.specs.Content.{ScriptValue}
use Rattle.play_report.specs.declared.report.Line.{Line}
use Rattle.play_lines.specs.PlayLines.{lines_of}
use Rattle.play_ends.specs.Nexts.{nexts_after}
use Rattle.play_ends.specs.Settings.{setting_of}
use Rattle.race_play.specs.Planned.{plan_view, planned}

-- the items of all schedule lines
abbrev pub items_of : ScriptValue → List Item
items_of script = flat_map (λ line. line) script.content.schedules

-- the clients of a script at the beginning of their plans, on an empty log
pub record Begins (script : ScriptValue) (w : Play CallMachine) : Type 0 where
  pub setting : w.setting ≡ setting_of script
  pub plans : map plan_view w.plans ≡ planned script.content
  pub entries : w.entries ≡ []
  pub records : w.records ≡ []
  pub players : AreFresh script.geometry script.tries (length script.content.clients) w.players

-- the events of a script, and what they leave: the log is legal, and the records stand in a legal history over its changes. Of
-- each call one verb is outstanding, so each choice is the first
pub record IsPlayed (script : ScriptValue) (v : Play CallMachine) : Type 0 where
  pub begun : Play CallMachine
  pub begins : Begins script begun
  pub events : List Event
  pub plays : Plays call_kind begun (items_of script) events v
  pub firsts : AllByRecursion (λ (e : Event). e.choice ≡ 0) events
  pub legal : IsLegalPlay v

-- the changes of the map that a play made
abbrev pub changes_in : Play CallMachine → List Change
changes_in v = changes_of v.setting v.entries

-- what is told of a play: the lines of its records with their points and of its open calls, the map of all its changes, the next
-- words, and the log
pub record IsTold (v : Play CallMachine) (lines : List Line) (pairs : Contents) (next : List ℕ) (front : Fronted) : Type 0 where
  pub lines_are : lines ≡ lines_of v.records (map unfinished_of v.players)
  pub map_is : pairs ≡ map_at (changes_in v) (length (changes_in v))
  pub next_is : next ≡ nexts_after v.setting.geometry v.entries
  pub geometry : front.geometry ≡ v.setting.geometry
  pub entries : front.entries ≡ v.entries
  pub stored : front.ran ≡ None

-- this is told of the play of a script
pub record Replayed (script : ScriptValue) (lines : List Line) (pairs : Contents) (next : List ℕ) (front : Fronted) : Type 0 where
  pub ended : Play CallMachine
  pub played : IsPlayed script ended
  pub told : IsTold ended lines pairs next front

-- this is the log of a play
pub record IsLogOf (v : Play CallMachine) (front : Fronted) : Type 0 where
  pub geometry : front.geometry ≡ v.setting.geometry
  pub entries : front.entries ≡ v.entries
  pub stored : front.ran ≡ None
