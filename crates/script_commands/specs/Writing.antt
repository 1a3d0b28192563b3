-- What a command that tells of a play wrote. Which text it makes of the play, with which log, is a parameter.
use Rattle.std.specs.Prelude.{◌≡◌, ℕ, List, Option, Some}
use Rattle.std.specs.Io.KnownBytes.{Appends}
use Rattle.client_seat.specs.Fronts.{Fronted}
use Rattle.race_io.specs.Transfer.{AppendsPart}
use Rattle.script_value.specs.Content.{ScriptValue}
use Rattle.script_commands.specs.Reading.{ReadsScript}

-- a text and a log as they are made were told, and the whole text written
pub record WritesText (Makes : List ℕ → Fronted → Type 0) (taken_old taken_new : Option (List ℕ)) (front : Option Fronted) : Type 0 where
  pub text : List ℕ
  pub log : Fronted
  pub told : front ≡ Some log
  pub made : Makes text log
  pub written : Appends taken_old taken_new text

-- the same, and a part from the front of the text written
pub record WritesTextInPart (Makes : List ℕ → Fronted → Type 0) (taken_old taken_new : Option (List ℕ)) (front : Option Fronted) : Type 0 where
  pub text : List ℕ
  pub log : Fronted
  pub told : front ≡ Some log
  pub made : Makes text log
  pub written : AppendsPart taken_old taken_new text

-- a script was read, and the text and the log are those of it
pub record OfScriptRead (Makes : ScriptValue → List ℕ → Fronted → Type 0) (left_old left_new : Option (List ℕ)) (text : List ℕ) (front : Fronted) : Type 0 where
  pub script : ScriptValue
  pub reads : ReadsScript left_old left_new script
  pub made : Makes script text front
