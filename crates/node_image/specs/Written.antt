-- What is told of the image of a log. The log stands in order here.
use Rattle.std.specs.Prelude.{◌≡◌, ℕ, ◌<◌, List, length, reverse}
use Rattle.key_hash.specs.Placing.{Pairs}
use Rattle.node_words.specs.declared.geometry.Geometry.{Geometry}
use Rattle.verb_log.specs.declared.entry.Entry.{Entry}
use Rattle.race_laws.specs.Setting.{Setting}
use Rattle.race_laws.specs.Laws.{map_in}
use Rattle.image_laws.specs.Walk.{WalkWord, address_of}
use Rattle.image_laws.specs.Quiet.{AreQuiet, FirstLoud}
use Rattle.image_laws.specs.Laws.{words_after}
use Rattle.image_audit.specs.Shape.{word_in}
use Rattle.image_audit.specs.declared.audit.Audit.{Audit}
use Rattle.image_audit.specs.declared.audit.Audit.TheVariants.{Sound}
use Rattle.node_image.specs.Image.{IsImage, IsAudited}
use Rattle.node_image.specs.Parts.{parts_of, image_bytes}
use Rattle.node_image.specs.declared.imaging.Imaged.{Imaged}
use Rattle.node_image.specs.declared.imaging.Imaged.TheVariants as imaged

-- the bytes are the image of the words after a log, which are quiet
pub record IsImageOf (s : Setting) (log : List Entry) (bytes : List ℕ) : Type 0 where
  pub quiet : AreQuiet s.geometry (words_after s.geometry log)
  pub spelled : bytes ≡ image_bytes s.geometry s.listed (parts_of s.geometry (words_after s.geometry log))
  pub is_image : IsImage bytes s.geometry s.listed (parts_of s.geometry (words_after s.geometry log))

-- the words of the image are those after the log, and each audit of the bytes says Sound, with the map of all changes of the log
pub record Keeps (s : Setting) (log : List Entry) (bytes : List ℕ) : Type 0 where
  pub words : (a : ℕ) → word_in s.geometry (parts_of s.geometry (words_after s.geometry log)) a ≡ words_after s.geometry log a
  pub audited : (audit : Audit) → IsAudited bytes audit → audit ≡ Sound (map_in s.geometry (reverse log))

-- the words after the log are quiet and their image has more bytes than an image may have, and this is their number
pub record IsTooLarge (s : Setting) (log : List Entry) (n : ℕ) : Type 0 where
  pub quiet : AreQuiet s.geometry (words_after s.geometry log)
  pub count : n ≡ length (image_bytes s.geometry s.listed (parts_of s.geometry (words_after s.geometry log)))
  pub many : 16777216 < n

-- the address is that of the first word of the walk that is not quiet
abbrev pub IsLoudAt : Setting → List Entry → ℕ → Type 0
IsLoudAt s log at = (x : WalkWord) × FirstLoud s.geometry (words_after s.geometry log) x × (at ≡ address_of x)

-- what is told of the image of a legal log
abbrev pub IsImaged : Setting → List Entry → Imaged → Type 0
IsImaged s log (imaged.Bytes bytes) = IsImageOf s log bytes.items × Keeps s log bytes.items
IsImaged s log (imaged.NotQuiet at) = IsLoudAt s log at
IsImaged s log (imaged.TooLarge n) = IsTooLarge s log n

-- what is written of the words of nodes
abbrev pub IsWritten : Geometry → Pairs → List (List ℕ) → Imaged → Type 0
IsWritten g listed nodes (imaged.Bytes bytes) = (bytes.items ≡ image_bytes g listed nodes) × IsImage bytes.items g listed nodes
IsWritten g listed nodes (imaged.NotQuiet at) = ⊥
IsWritten g listed nodes (imaged.TooLarge n) = (n ≡ length (image_bytes g listed nodes)) × (16777216 < n)
