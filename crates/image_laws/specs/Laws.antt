-- What the laws of sound images say. A log stands in order here.
use Rattle.std.specs.Prelude.{◌≡◌, ℕ, List, [], Some, reverse, ◌↔◌}
use Rattle.std.specs.FinMap.{get}
use Rattle.kv_block.specs.Packing.{Pair}
use Rattle.node_words.specs.declared.geometry.Geometry.{Geometry}
use Rattle.verb_log.specs.declared.entry.Entry.{Entry}
use Rattle.verb_log.specs.Decoded.{Body}
use Rattle.verb_log.specs.Tables.{word_at}
use Rattle.race_laws.specs.Setting.{Setting}
use Rattle.race_laws.specs.Chains.{Holder}
use Rattle.race_laws.specs.Legal.{IsLegal}
use Rattle.race_laws.specs.Laws.{map_in}
use Rattle.image_laws.specs.Walk.{Words}
use Rattle.image_laws.specs.Sound.{IsSound}
use Rattle.image_laws.specs.Quiet.{AreQuiet}
use Rattle.image_laws.specs.Answers.{Answers, map_held}
use Rattle.image_laws.specs.Imaged.{imaged}

-- the words after a log
abbrev pub words_after : Geometry → List Entry → Words
words_after g log = word_at g (reverse log)

-- one answer: at most one slot answers for a key, and one does exactly where the map of the live slots has the key, with the value of
-- its block
pub record HasOneAnswer (s : Setting) (w : Words) (key : List ℕ) : Type 0 where
  pub one : (t u p r : ℕ) (b c : Body) (pb pc : Pair) → Answers s w key t p b pb → Answers s w key u r c pc → (t ≡ u) × (p ≡ r) × (b ≡ c)
  pub held : (t p : ℕ) (b : Body) (q : Pair) → Answers s w key t p b q → get (map_held s w) key ≡ Some q.value
  pub found : (value : List ℕ) → get (map_held s w) key ≡ Some value → (t : ℕ) × (p : ℕ) × (b : Body) × (q : Pair) × Answers s w key t p b q × (q.value ≡ value)

-- sound words are one map
abbrev pub SoundIsOneMap : Type 0
SoundIsOneMap = (s : Setting) (w : Words) → IsSound s w → (key : List ℕ) → HasOneAnswer s w key

-- the words after a legal log, where they are quiet, are sound, and the map of their live slots is that of all changes
abbrev pub QuietIsSound : Type 0
QuietIsSound = (s : Setting) (log : List Entry) → IsLegal s log → AreQuiet s.geometry (words_after s.geometry log) → IsSound s (words_after s.geometry log) × (map_held s (words_after s.geometry log) ≡ map_in s.geometry (reverse log))

-- the slots that answer in the words after a legal log are its holders
abbrev pub AnswersAreHolders : Type 0
AnswersAreHolders = (s : Setting) (log : List Entry) → IsLegal s log → (key : List ℕ) (t p : ℕ) (b : Body) (q : Pair) → Answers s (words_after s.geometry log) key t p b q ↔ Holder s (reverse log) key t p b q

-- what an image keeps of the words after a legal log gives all of them back
abbrev pub ImageKeeps : Type 0
ImageKeeps = (s : Setting) (log : List Entry) → IsLegal s log → (a : ℕ) → imaged s.geometry (words_after s.geometry log) a ≡ words_after s.geometry log a

-- the opening words are quiet
abbrev pub OpeningIsQuiet : Type 0
OpeningIsQuiet = (s : Setting) → AreQuiet s.geometry (words_after s.geometry [])
