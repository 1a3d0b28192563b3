-- What a command tells of the play of a script by its schedule.
use Rattle.std.specs.Prelude.{◌≡◌, ℕ, List, Option}
use Rattle.std.specs.FinMap as fin
use Rattle.client_seat.specs.Fronts.{Fronted}
use Rattle.map_model.specs.Contents.{Contents}
use Rattle.script_value.specs.Content.{ScriptValue}
use Rattle.play_report.specs.Report.{report}
use Rattle.play_report.specs.declared.report.Line.{Line}
use Rattle.play_report.specs.declared.report.Mode.TheVariants as mode
use Rattle.storm_script.specs.Storm.{storm_value}
use Rattle.storm_script.specs.Summary.{storm_summary}
use Rattle.verb_log.specs.Recorded.{Recorded}
use Rattle.key_hash.specs.Placing.{Pairs}
use Rattle.node_words.specs.declared.geometry.Geometry.{Geometry}
use Rattle.call_machine.specs.declared.call.CallMachine.{CallMachine}
use Rattle.verb_core.specs.Play.{Play}
use Rattle.script_commands.specs.Reading.{ReadsScript}
use Rattle.race_play.specs.Plays.{IsLogOf, IsPlayed, Replayed}

-- the text is the report of the play of the script, with this log
pub record Reports (script : ScriptValue) (text : List ℕ) (front : Fronted) : Type 0 where
  pub lines : List Line
  pub pairs : Contents
  pub next : List ℕ
  pub replayed : Replayed script lines pairs next front
  pub written : text ≡ report mode.Replay script lines (fin.entries pairs) next

-- the text is the summary of the play of a storm, with this log
pub record Sums (seed clients calls : ℕ) (text : List ℕ) (front : Fronted) : Type 0 where
  pub lines : List Line
  pub pairs : Contents
  pub next : List ℕ
  pub replayed : Replayed (storm_value seed clients calls) lines pairs next front
  pub written : text ≡ storm_summary seed clients calls lines (fin.entries pairs) next

-- this is the log of the play of the script, with the script's sizes and listed hashes
pub record LogsPlay (script : ScriptValue) (log : Recorded) (geometry : Geometry) (listed : Pairs) : Type 0 where
  pub ended : Play CallMachine
  pub played : IsPlayed script ended
  pub same_geometry : log.geometry ≡ ended.setting.geometry
  pub same_entries : log.entries ≡ ended.entries
  pub geometry_is : geometry ≡ script.geometry
  pub listed_is : listed ≡ script.content.hashes

-- all bytes of the source were read, they spell the script, and this is the log of its play
pub record ReadsAndPlays (left_old left_new : Option (List ℕ)) (script : ScriptValue) (front : Fronted) : Type 0 where
  pub reads : ReadsScript left_old left_new script
  pub ended : Play CallMachine
  pub played : IsPlayed script ended
  pub log : IsLogOf ended front
