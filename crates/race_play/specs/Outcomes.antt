-- What a command did to its source and its sink.
use Rattle.std.specs.Prelude.{◌≡◌, ℕ, ◌≤◌, List, Option, Some, None, ◌⊎◌}
use Rattle.client_seat.specs.Fronts.{Fronted}
use Rattle.script_value.specs.Content.{ScriptValue}
use Rattle.script_commands.specs.Endings.{IsPlayStatus, TellsPlay}
use Rattle.script_commands.specs.Reading.{RefusesScript}
use Rattle.script_commands.specs.Writing.{OfScriptRead, WritesText, WritesTextInPart}
use Rattle.image_commands.specs.Audits.{IsAuditStatus, RefusesImage, TellsBad, TellsSound, TellsSoundInPart}
use Rattle.image_commands.specs.Images.{TellsNoImage, WritesImage, WritesImageInPart}
use Rattle.play_ends.specs.Settings.{setting_of}
use Rattle.run_commands.specs.Runs.{ReportsRun}
use Rattle.race_play.specs.declared.command.Command.{Command}
use Rattle.race_play.specs.declared.command.Command.TheVariants.{Replay, Run, Storm, Image, Audit}
use Rattle.race_play.specs.Texts.{ReadsAndPlays, Reports, Sums}

-- a storm's numbers are within their limits
abbrev pub IsCommand : Command → Type 0
IsCommand Replay = Unit {0}
IsCommand Run = Unit {0}
IsCommand (Storm seed clients calls) = (1 ≤ clients) × (clients ≤ 16) × (1 ≤ calls) × (calls ≤ 1024)
IsCommand Image = Unit {0}
IsCommand Audit = Unit {0}

-- a command that waits for nobody; a storm's numbers are within their limits
abbrev pub MayReplay : Command → Type 0
MayReplay Replay = Unit {0}
MayReplay Run = ⊥
MayReplay (Storm seed clients calls) = IsCommand (Storm seed clients calls)
MayReplay Image = Unit {0}
MayReplay Audit = Unit {0}

-- the most bytes that a command reads
abbrev pub most_read : Command → ℕ
most_read Audit = 16777217
most_read Replay = 4194305
most_read Run = 4194305
most_read (Storm seed clients calls) = 4194305
most_read Image = 4194305

-- the script was played, and the image of its log written
pub record WritesPicture (left_old left_new taken_old taken_new : Option (List ℕ)) (front : Option Fronted) : Type 0 where
  pub script : ScriptValue
  pub log : Fronted
  pub told : front ≡ Some log
  pub reads : ReadsAndPlays left_old left_new script log
  pub written : WritesImage (setting_of script) log.entries taken_old taken_new

-- the script was played, and a part from the front of the image of its log written
pub record WritesPictureInPart (left_old left_new taken_old taken_new : Option (List ℕ)) (front : Option Fronted) : Type 0 where
  pub script : ScriptValue
  pub log : Fronted
  pub told : front ≡ Some log
  pub reads : ReadsAndPlays left_old left_new script log
  pub written : WritesImageInPart (setting_of script) log.entries taken_old taken_new

-- the script was played, there is no image of its log, and the line that says why was written
pub record TellsNoPicture (left_old left_new taken_old taken_new : Option (List ℕ)) (faults_old faults_new : ℕ) (front : Option Fronted) : Type 0 where
  pub script : ScriptValue
  pub log : Fronted
  pub told : front ≡ Some log
  pub reads : ReadsAndPlays left_old left_new script log
  pub written : TellsNoImage (setting_of script) log.entries taken_old taken_new faults_old faults_new

-- what a command did, and all that it writes
abbrev pub Writes : Command → Option (List ℕ) → Option (List ℕ) → Option (List ℕ) → Option (List ℕ) → Option Fronted → Type 0
Writes Replay left_old left_new taken_old taken_new front = WritesText (OfScriptRead Reports left_old left_new) taken_old taken_new front
Writes Run left_old left_new taken_old taken_new front = WritesText (OfScriptRead ReportsRun left_old left_new) taken_old taken_new front
Writes (Storm seed clients calls) left_old left_new taken_old taken_new front = WritesText (Sums seed clients calls) taken_old taken_new front
Writes Image left_old left_new taken_old taken_new front = WritesPicture left_old left_new taken_old taken_new front
Writes Audit left_old left_new taken_old taken_new front = TellsSound left_old left_new taken_old taken_new

-- the same, and a part from the front of what it writes
abbrev pub WritesInPart : Command → Option (List ℕ) → Option (List ℕ) → Option (List ℕ) → Option (List ℕ) → Option Fronted → Type 0
WritesInPart Replay left_old left_new taken_old taken_new front = WritesTextInPart (OfScriptRead Reports left_old left_new) taken_old taken_new front
WritesInPart Run left_old left_new taken_old taken_new front = WritesTextInPart (OfScriptRead ReportsRun left_old left_new) taken_old taken_new front
WritesInPart (Storm seed clients calls) left_old left_new taken_old taken_new front = WritesTextInPart (Sums seed clients calls) taken_old taken_new front
WritesInPart Image left_old left_new taken_old taken_new front = WritesPictureInPart left_old left_new taken_old taken_new front
WritesInPart Audit left_old left_new taken_old taken_new front = TellsSoundInPart left_old left_new taken_old taken_new

-- the bytes read are not what the command reads, and the line that says so was written; a storm reads nothing
abbrev pub Refuses : Command → Option (List ℕ) → Option (List ℕ) → Option (List ℕ) → Option (List ℕ) → ℕ → ℕ → Type 0
Refuses Replay left_old left_new taken_old taken_new faults_old faults_new = RefusesScript left_old left_new taken_old taken_new faults_old faults_new
Refuses Run left_old left_new taken_old taken_new faults_old faults_new = RefusesScript left_old left_new taken_old taken_new faults_old faults_new
Refuses (Storm seed clients calls) left_old left_new taken_old taken_new faults_old faults_new = ⊥
Refuses Image left_old left_new taken_old taken_new faults_old faults_new = RefusesScript left_old left_new taken_old taken_new faults_old faults_new
Refuses Audit left_old left_new taken_old taken_new faults_old faults_new = RefusesImage left_old left_new taken_old taken_new faults_old faults_new

-- a script was played whose log has no image, which only the command `image` tells
abbrev pub TellsNone : Command → Option (List ℕ) → Option (List ℕ) → Option (List ℕ) → Option (List ℕ) → ℕ → ℕ → Option Fronted → Type 0
TellsNone Replay left_old left_new taken_old taken_new faults_old faults_new front = ⊥
TellsNone Run left_old left_new taken_old taken_new faults_old faults_new front = ⊥
TellsNone (Storm seed clients calls) left_old left_new taken_old taken_new faults_old faults_new front = ⊥
TellsNone Image left_old left_new taken_old taken_new faults_old faults_new front = TellsNoPicture left_old left_new taken_old taken_new faults_old faults_new front
TellsNone Audit left_old left_new taken_old taken_new faults_old faults_new front = ⊥

-- a word of an image is bad, which only the command `audit` tells
abbrev pub FindsBad : Command → Option (List ℕ) → Option (List ℕ) → Option (List ℕ) → Option (List ℕ) → ℕ → ℕ → Type 0
FindsBad Replay left_old left_new taken_old taken_new faults_old faults_new = ⊥
FindsBad Run left_old left_new taken_old taken_new faults_old faults_new = ⊥
FindsBad (Storm seed clients calls) left_old left_new taken_old taken_new faults_old faults_new = ⊥
FindsBad Image left_old left_new taken_old taken_new faults_old faults_new = ⊥
FindsBad Audit left_old left_new taken_old taken_new faults_old faults_new = TellsBad left_old left_new taken_old taken_new faults_old faults_new

-- the statuses of a command that writes an image
abbrev pub IsImageStatus : ℕ → Type 0
IsImageStatus n = (n ≡ 0) ⊎ (n ≡ 3) ⊎ (n ≡ 4) ⊎ (n ≡ 5) ⊎ (n ≡ 6) ⊎ (n ≡ 7)

-- the statuses of a command
abbrev pub IsStatus : Command → ℕ → Type 0
IsStatus Replay n = IsPlayStatus n
IsStatus Run n = IsPlayStatus n
IsStatus (Storm seed clients calls) n = IsPlayStatus n
IsStatus Image n = IsImageStatus n
IsStatus Audit n = IsAuditStatus n

-- the log is told exactly where a script was played; an audit plays none
abbrev pub TellsFront : Command → ℕ → Option Fronted → Type 0
TellsFront Replay status front = TellsPlay status front
TellsFront Run status front = TellsPlay status front
TellsFront (Storm seed clients calls) status front = TellsPlay status front
TellsFront Image status front = TellsPlay status front
TellsFront Audit status front = front ≡ None
