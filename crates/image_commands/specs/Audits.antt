-- What the command `audit` did to its source and its sink.
use Rattle.std.specs.Prelude.{◌≡◌, ℕ, List, codes, Option, ◌⊎◌}
use Rattle.std.specs.FinMap as fin
use Rattle.std.specs.Io.KnownBytes.{Appends, IsAtEnd}
use Rattle.key_hash.specs.Placing.{Pairs}
use Rattle.map_model.specs.Contents.{Contents}
use Rattle.node_words.specs.declared.geometry.Geometry.{Geometry}
use Rattle.race_io.specs.Transfer.{TakesAll, AppendsPart}
use Rattle.image_laws.specs.Walk.{WalkWord, address_of}
use Rattle.image_laws.specs.Sound.{IsSound, FirstBad}
use Rattle.image_laws.specs.Answers.{map_held}
use Rattle.image_laws.specs.Laws.{HasOneAnswer}
use Rattle.image_audit.specs.Kept.{setting_of}
use Rattle.image_audit.specs.Shape.{word_in}
use Rattle.node_image.specs.Image.{IsImage, IsMalformed}
use Rattle.image_commands.specs.Texts.{TellsLine, audit_report, number_line}

-- the statuses of the command
abbrev pub IsAuditStatus : ℕ → Type 0
IsAuditStatus n = (n ≡ 0) ⊎ (n ≡ 3) ⊎ (n ≡ 4) ⊎ (n ≡ 5) ⊎ (n ≡ 6) ⊎ (n ≡ 8)

-- the source was read to its end, and the bytes read are an image of these words
pub record ReadsImage (left_old left_new : Option (List ℕ)) (g : Geometry) (listed : Pairs) (nodes : List (List ℕ)) : Type 0 where
  pub bytes : List ℕ
  pub taken : TakesAll left_old left_new 16777217 bytes
  pub whole : IsAtEnd left_new
  pub is_image : IsImage bytes g listed nodes

-- sound words of an image, and the map of the slots that answer in them: at most one for each key, and one exactly where the map has
-- the key, with its value
pub record AreSound (left_old left_new : Option (List ℕ)) (pairs : Contents) : Type 0 where
  pub geometry : Geometry
  pub listed : Pairs
  pub nodes : List (List ℕ)
  pub reads : ReadsImage left_old left_new geometry listed nodes
  pub sound : IsSound (setting_of geometry listed) (word_in geometry nodes)
  pub map : pairs ≡ map_held (setting_of geometry listed) (word_in geometry nodes)
  pub one : (key : List ℕ) → HasOneAnswer (setting_of geometry listed) (word_in geometry nodes) key

-- the words are sound, and their map was written
pub record TellsSound (left_old left_new taken_old taken_new : Option (List ℕ)) : Type 0 where
  pub pairs : Contents
  pub are : AreSound left_old left_new pairs
  pub written : Appends taken_old taken_new (audit_report (fin.entries pairs))

-- the words are sound, and a part from the front of their map was written
pub record TellsSoundInPart (left_old left_new taken_old taken_new : Option (List ℕ)) : Type 0 where
  pub pairs : Contents
  pub are : AreSound left_old left_new pairs
  pub written : AppendsPart taken_old taken_new (audit_report (fin.entries pairs))

-- the bytes read are no well formed image, and a line that says so was written
pub record RefusesImage (left_old left_new taken_old taken_new : Option (List ℕ)) (faults_old faults_new : ℕ) : Type 0 where
  pub bytes : List ℕ
  pub taken : TakesAll left_old left_new 16777217 bytes
  pub malformed : IsMalformed bytes
  pub written : TellsLine taken_old taken_new faults_old faults_new (codes "refused image\n")

-- a word of an image is the first of its walk that breaks its rule, and a line with its address was written
pub record TellsBad (left_old left_new taken_old taken_new : Option (List ℕ)) (faults_old faults_new : ℕ) : Type 0 where
  pub geometry : Geometry
  pub listed : Pairs
  pub nodes : List (List ℕ)
  pub reads : ReadsImage left_old left_new geometry listed nodes
  pub word : WalkWord
  pub bad : FirstBad (setting_of geometry listed) (word_in geometry nodes) word
  pub written : TellsLine taken_old taken_new faults_old faults_new (number_line (codes "bad ") (address_of word))
