-- The report of the command `run`.
use Rattle.std.specs.Prelude.{◌≡◌, ℕ, List}
use Rattle.std.specs.FinMap as fin
use Rattle.map_model.specs.Contents.{Contents}
use Rattle.script_value.specs.Content.{ScriptValue}
use Rattle.play_report.specs.Report.{report}
use Rattle.play_report.specs.declared.report.Line.{Line}
use Rattle.play_report.specs.declared.report.Mode.TheVariants as mode
use Rattle.client_seat.specs.Fronts.{Fronted}
use Rattle.thread_play.specs.Played.{HasPlayed}

-- the text is the report of the play of the script on threads, with this log: the records of its lines stand in a legal history over
-- the changes of the log, which is kept by a badge of the memory that the clients played on, and the map is that of all changes
pub record ReportsRun (script : ScriptValue) (text : List ℕ) (front : Fronted) : Type 0 where
  pub lines : List Line
  pub pairs : Contents
  pub next : List ℕ
  pub played : HasPlayed script lines pairs next front
  pub written : text ≡ report mode.Run script lines (fin.entries pairs) next
