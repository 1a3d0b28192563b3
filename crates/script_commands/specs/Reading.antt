-- What was read: a script, or bytes that are none.
use Rattle.std.specs.Prelude.{◌≡◌, ℕ, List, Option, Ok, Err, ◌⊎◌}
use Rattle.std.specs.Io.KnownBytes.{Appends, IsAtEnd}
use Rattle.race_io.specs.Counts.{Rose}
use Rattle.race_io.specs.Transfer.{TakesAll, AppendsPart}
use Rattle.script_value.specs.Content.{ScriptValue}
use Rattle.script_value.specs.ScriptText.{text_of_script}
use Rattle.script_value.specs.Valid.{IsScript}
use Rattle.script_reader.specs.Rules.{Refusal, script_of}
use Rattle.script_reader.specs.Gives.{told_of}
use Rattle.script_reader.specs.Refused.{refusal_line}

-- bytes spell a script, and it is read from them
pub record Spells (bytes : List ℕ) (script : ScriptValue) : Type 0 where
  pub is : IsScript script
  pub spelled : bytes ≡ text_of_script script
  pub read : script_of bytes ≡ Ok (told_of script)

-- all bytes of the source were read, and they spell the script
pub record ReadsScript (left_old left_new : Option (List ℕ)) (script : ScriptValue) : Type 0 where
  pub bytes : List ℕ
  pub taken : TakesAll left_old left_new 4194305 bytes
  pub whole : IsAtEnd left_new
  pub spells : Spells bytes script

-- the line of a refusal was written, whole where the sink did not fail
abbrev pub Tells : Option (List ℕ) → Option (List ℕ) → ℕ → ℕ → Refusal → Type 0
Tells taken_old taken_new faults_old faults_new refusal =
    Appends taken_old taken_new (refusal_line refusal) ⊎ (Rose faults_old faults_new × AppendsPart taken_old taken_new (refusal_line refusal))

-- the bytes read are no script, and the line of their refusal was written
pub record RefusesScript (left_old left_new taken_old taken_new : Option (List ℕ)) (faults_old faults_new : ℕ) : Type 0 where
  pub bytes : List ℕ
  pub refusal : Refusal
  pub taken : TakesAll left_old left_new 4194305 bytes
  pub is : script_of bytes ≡ Err refusal
  pub written : Tells taken_old taken_new faults_old faults_new refusal
