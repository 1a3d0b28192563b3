-- What the command `image` did to its sink. The log stands in order here.
use Rattle.std.specs.Prelude.{ℕ, List, codes, Option, ◌⊎◌}
use Rattle.std.specs.Io.KnownBytes.{Appends}
use Rattle.race_io.specs.Transfer.{AppendsPart}
use Rattle.verb_log.specs.declared.entry.Entry.{Entry}
use Rattle.race_laws.specs.Setting.{Setting}
use Rattle.node_image.specs.Written.{IsImageOf, IsLoudAt, IsTooLarge, Keeps}
use Rattle.image_commands.specs.Texts.{TellsLine, number_line}

-- the image of the words after a log was written, and each audit of it says Sound, with the map of all changes of the log
pub record WritesImage (s : Setting) (log : List Entry) (taken_old taken_new : Option (List ℕ)) : Type 0 where
  pub bytes : List ℕ
  pub is : IsImageOf s log bytes
  pub keeps : Keeps s log bytes
  pub written : Appends taken_old taken_new bytes

-- a part from the front of this image was written
pub record WritesImageInPart (s : Setting) (log : List Entry) (taken_old taken_new : Option (List ℕ)) : Type 0 where
  pub bytes : List ℕ
  pub is : IsImageOf s log bytes
  pub written : AppendsPart taken_old taken_new bytes

-- a word is not quiet, and a line with the address of the first such was written
pub record TellsLoud (s : Setting) (log : List Entry) (taken_old taken_new : Option (List ℕ)) (faults_old faults_new : ℕ) : Type 0 where
  pub at : ℕ
  pub loud : IsLoudAt s log at
  pub written : TellsLine taken_old taken_new faults_old faults_new (number_line (codes "not-quiet ") at)

-- the image has too many bytes, and a line with their number was written
pub record TellsTooLarge (s : Setting) (log : List Entry) (taken_old taken_new : Option (List ℕ)) (faults_old faults_new : ℕ) : Type 0 where
  pub count : ℕ
  pub large : IsTooLarge s log count
  pub written : TellsLine taken_old taken_new faults_old faults_new (number_line (codes "too-large ") count)

-- there is no image, and a line that says why was written
abbrev pub TellsNoImage : Setting → List Entry → Option (List ℕ) → Option (List ℕ) → ℕ → ℕ → Type 0
TellsNoImage s log taken_old taken_new faults_old faults_new = TellsLoud s log taken_old taken_new faults_old faults_new ⊎ TellsTooLarge s log taken_old taken_new faults_old faults_new
