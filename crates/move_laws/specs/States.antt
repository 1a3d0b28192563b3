-- What holds of the log while a split is under way, and of one of its places.
use Rattle.std.specs.Prelude.{◌≡◌, ◌≢◌, ℕ, ◌+◌, ◌^◌, ◌<◌, Option, Some, None, ◌⊎◌}
use Rattle.slot_word.specs.declared.slots.Mark.TheVariants.{Copied, Moved}
use Rattle.node_words.specs.Addresses.{slot_at}
use Rattle.verb_log.specs.Decoded.{Body, Full, content, SplittingAt}
use Rattle.verb_log.specs.Tables.{Past, Before, word_at}
use Rattle.race_laws.specs.Setting.{Setting}
use Rattle.race_laws.specs.Standing.{IsTable, header_in, birth_in, child_in, place_in}
use Rattle.race_laws.specs.Splits.{IsOpen}
use Rattle.race_laws.specs.Rows.{HasLock}
use Rattle.split_text.specs.declared.site.Site.{Site}

-- the client has the locks of the table and of its child, which is linked at the depth
pub record Going (s : Setting) (c : ℕ) (site : Site) (q : Past) : Type 0 where
  pub table : IsTable s.geometry q site.table
  pub lock : HasLock s.geometry q c site.table
  pub below : site.depth < s.geometry.max_depth
  pub link : child_in s.geometry q site.table site.depth ≡ site.child
  pub some : site.child ≢ 0
  pub child_lock : HasLock s.geometry q c site.child
  pub suffix : site.suffix ≡ (birth_in s.geometry q site.table).suffix + 2 ^ site.depth

-- and its split has opened
pub record Opened (s : Setting) (c : ℕ) (site : Site) (q : Past) : Type 0 where
  pub going : Going s c site q
  pub splits : header_in s.geometry q site.table ≡ SplittingAt site.depth

-- the place of the table is not moved
abbrev pub Still : Setting → ℕ → Past → ℕ → Type 0
Still s t q p = (b : Body) → place_in s.geometry q t p ≢ Full Moved b

-- the place of the child is no copy
abbrev pub Bare : Setting → ℕ → Past → ℕ → Type 0
Bare s u q p = (b : Body) → place_in s.geometry q u p ≢ Full Copied b

-- the copy that stands in the child, if one does
abbrev pub Stands : Setting → ℕ → ℕ → Option ℕ → Past → Type 0
Stands s u p None q = Bare s u q p
Stands s u p (Some w) q = (b : Body) × (content w ≡ Full Copied b) × (word_at s.geometry q (slot_at u p) ≡ w)

-- its word, or 0
abbrev pub or_zero : Option ℕ → ℕ
or_zero None = 0
or_zero (Some w) = w

-- at a place, beside its copy
pub record Busy (s : Setting) (c : ℕ) (site : Site) (p : ℕ) (copy : Option ℕ) (q : Past) : Type 0 where
  pub open_now : Opened s c site q
  pub still : Still s site.table q p
  pub stands : Stands s site.child p copy q

-- this word stood at the place of the table at a position since the split opened, and the place was not moved since then
pub record ReadAt (s : Setting) (site : Site) (p word : ℕ) (at q : Past) : Type 0 where
  pub before : Before at q
  pub table : IsTable s.geometry at site.table
  pub opened : IsOpen (header_in s.geometry at site.table) site.depth
  pub word_is : word_at s.geometry at (slot_at site.table p) ≡ word
  pub still : (x : Past) → Before at x → Before x q → Still s site.table x p

-- a word is judged beside the copy that stands
abbrev pub Judging : Setting → ℕ → Site → ℕ → ℕ → Option ℕ → Past → Past → Type 0
Judging s c site p word copy at q = Busy s c site p copy q × ReadAt s site p word at q

-- the block was flipped: its place is moved, its copy stands or is settled
pub record Turned (s : Setting) (c : ℕ) (site : Site) (p : ℕ) (b : Body) (q : Past) : Type 0 where
  pub open_now : Opened s c site q
  pub moved : place_in s.geometry q site.table p ≡ Full Moved b
  pub copy : (place_in s.geometry q site.child p ≡ Full Copied b) ⊎ Bare s site.child q p
