-- What the end of a pass says of the log. The pass began at the position `from` and ended at the position `q`.
use Rattle.std.specs.Prelude.{◌≡◌, ℕ, ◌+◌, ◌<◌, Bool, false, ◌==◌, List, [], ◌∷◌, get_or, Option, Some, None}
use Rattle.slot_word.specs.declared.heads.Head.{Head}
use Rattle.kv_block.specs.Packing.{Pair}
use Rattle.node_words.specs.declared.geometry.Geometry.{Geometry}
use Rattle.node_words.specs.Addresses.{slot_at}
use Rattle.verb_log.specs.Decoded.{Body, header_of}
use Rattle.verb_log.specs.Tables.{Past, Before, word_at}
use Rattle.race_laws.specs.Setting.{Setting, hash}
use Rattle.race_laws.specs.Standing.{header_in, key_header, IsGone, Exits, Stays}
use Rattle.race_laws.specs.Chains.{Holder}
use Rattle.race_laws.specs.Looks.{Reading, InOrder, PassedBy}
use Rattle.log_facts.specs.Passings.{searched_before}
use Rattle.log_facts.specs.Start.{Start}
use Rattle.pass_text.specs.declared.job.PassMode.{PassMode}
use Rattle.pass_text.specs.declared.job.PassMode.TheVariants.{Look, Sweep, Walk}
use Rattle.pass_text.specs.declared.passed.Held.{Held as HeldWord}
use Rattle.pass_text.specs.declared.passed.PassEnd.{PassEnd}
use Rattle.pass_text.specs.declared.passed.PassEnd.TheVariants.{Held, Clear, Gone, Spent}
use Rattle.pass_text.specs.declared.passed.Passed.{Passed}

-- Held: at a position of the pass the slot is the key's holder (live, or a copy that answers), with this word there and with
-- this value in its block
pub record HeldAt (s : Setting) (key : List ℕ) (from q : Past) (t : ℕ) (h : HeldWord) : Type 0 where
  pub at : Past
  pub from_then : Before from at
  pub till : Before at q
  pub place : ℕ
  pub body : Body
  pub pair : Pair
  pub holder : Holder s at key t place body pair
  pub slot : h.at ≡ slot_at t place
  pub word : word_at s.geometry at h.at ≡ h.word
  pub value : pair.value ≡ h.value

-- Clear: looked, or swept with this own slot, down to the table that is told; the table before and the last header are told
pub record ClearAt (s : Setting) (key : List ℕ) (own : Option ℕ) (from q : Past) (p : Passed) : Type 0 where
  pub passed : PassedBy InOrder s q from key own
  pub table : passed.table ≡ p.table
  pub parent : searched_before passed.prev ≡ p.parent
  pub head : key_header s passed.end p.table key ≡ header_of (Some p.head)

-- of candidates from number i on it is told which were read as 0
abbrev pub FreeFrom : Geometry → ℕ → List Bool → ℕ → List Reading → Type 0
FreeFrom g t free i [] = Unit {0}
FreeFrom g t free i (r ∷ rs) = (get_or free i false ≡ (word_at g r.at (slot_at t r.place) == 0)) × FreeFrom g t free (i + 1) rs

-- .. after a look: looked, and of each candidate of the last table it is told whether it was read as 0
pub record LookedAt (s : Setting) (key : List ℕ) (from q : Past) (p : Passed) : Type 0 where
  pub clear : ClearAt s key None from q p
  pub free : FreeFrom s.geometry p.table p.free 0 clear.passed.seen

-- .. after a walk: at a position of the pass a pass might start at the table that is told, and by the key's header there, which
-- is told, the key stays
pub record StayedAt (s : Setting) (key : List ℕ) (from q : Past) (p : Passed) : Type 0 where
  pub at : Past
  pub from_then : Before from at
  pub till : Before at q
  pub start : Start s.geometry at (hash s key) p.table
  pub head : key_header s at p.table key ≡ header_of (Some p.head)
  pub stays : Stays s at p.table key (header_of (Some p.head))

-- Gone: the own slot is in the table that is told, and at a position of the pass the key's header there, which is told, shows
-- the key leaving or left
pub record GoneAt (s : Setting) (key : List ℕ) (own : ℕ) (from q : Past) (p : Passed) : Type 0 where
  pub place : ℕ
  pub own_is : own ≡ slot_at p.table place
  pub at : Past
  pub from_then : Before from at
  pub till : Before at q
  pub level : ℕ
  pub exits : Exits s at p.table key level
  pub head : key_header s at p.table key ≡ header_of (Some p.head)
  pub gone : IsGone (header_of (Some p.head)) level

-- which ends a mode has, and what each says. A sweep is Spent where it has lost as many drops as might be, and ends otherwise
-- before that
abbrev pub EndsSo : Setting → List ℕ → PassMode → Past → Past → Passed → PassEnd → Type 0
EndsSo s key Look from q p (Held h) = HeldAt s key from q p.table h
EndsSo s key Look from q p Clear = LookedAt s key from q p
EndsSo s key Look from q p Gone = ⊥
EndsSo s key Look from q p Spent = ⊥
EndsSo s key (Sweep own left) from q p (Held h) = HeldAt s key from q p.table h × (p.lost < left)
EndsSo s key (Sweep own left) from q p Clear = ClearAt s key (Some own) from q p × (p.lost < left)
EndsSo s key (Sweep own left) from q p Gone = GoneAt s key own from q p × (p.lost < left)
EndsSo s key (Sweep own left) from q p Spent = p.lost ≡ left
EndsSo s key Walk from q p (Held h) = ⊥
EndsSo s key Walk from q p Clear = StayedAt s key from q p
EndsSo s key Walk from q p Gone = ⊥
EndsSo s key Walk from q p Spent = ⊥

-- A pass has ended. A pass may start at the table that is told. At a position `opened` the header of a table was read with which
-- the pass opened; where that table is the last one, it is told. All that the end says stands from that position on.
pub record HasPassed (s : Setting) (key : List ℕ) (mode : PassMode) (from q : Past) (p : Passed) : Type 0 where
  pub start : Start s.geometry q (hash s key) p.table
  pub opened : Past
  pub from_then : Before from opened
  pub till : Before opened q
  pub opened_head : (h : Head) → p.opened ≡ Some h → header_in s.geometry opened p.table ≡ header_of (Some h)
  pub so : EndsSo s key mode opened q p p.end
