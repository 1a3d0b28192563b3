-- What the end of a posted look says of the log. The look began at the position `from` and ended at the position `q`.
use Rattle.std.specs.Prelude.{◌≡◌, ℕ, List, Some}
use Rattle.slot_word.specs.declared.heads.Head.{Head}
use Rattle.verb_log.specs.Decoded.{header_of}
use Rattle.verb_log.specs.Tables.{Past, Before}
use Rattle.race_laws.specs.Setting.{Setting, hash}
use Rattle.race_laws.specs.Standing.{header_in, key_header}
use Rattle.race_laws.specs.Looks.{SpreadLooked}
use Rattle.log_facts.specs.Passings.{searched_before}
use Rattle.log_facts.specs.Start.{Start}
use Rattle.pass_text.specs.declared.passed.PassEnd.{PassEnd}
use Rattle.pass_text.specs.declared.passed.PassEnd.TheVariants.{Held, Clear, Gone, Spent}
use Rattle.pass_text.specs.declared.passed.Passed.{Passed}
use Rattle.pass_laws.specs.HasPassed.{HeldAt, FreeFrom}

-- Clear: spread looked, down to the table that is told; the table before, the last header, and of each candidate of the last
-- table whether it was read as 0, are told
pub record SpreadAt (s : Setting) (key : List ℕ) (from q : Past) (p : Passed) : Type 0 where
  pub passed : SpreadLooked s q from key
  pub table : passed.table ≡ p.table
  pub parent : searched_before passed.prev ≡ p.parent
  pub head : key_header s passed.end p.table key ≡ header_of (Some p.head)
  pub free : FreeFrom s.geometry p.table p.free 0 passed.seen

-- a posted look ends as a look does: Held, at a position of the look, or Clear
abbrev pub LooksSo : Setting → List ℕ → Past → Past → Passed → PassEnd → Type 0
LooksSo s key from q p (Held h) = HeldAt s key from q p.table h
LooksSo s key from q p Clear = SpreadAt s key from q p
LooksSo s key from q p Gone = ⊥
LooksSo s key from q p Spent = ⊥

-- A posted look has ended. A pass may start at the table that is told. At a position `opened` the header of a table was read with
-- which the look opened; where that table is the last one, it is told. All that the end says stands from that position on.
pub record HasLooked (s : Setting) (key : List ℕ) (from q : Past) (p : Passed) : Type 0 where
  pub start : Start s.geometry q (hash s key) p.table
  pub opened : Past
  pub from_then : Before from opened
  pub till : Before opened q
  pub opened_head : (h : Head) → p.opened ≡ Some h → header_in s.geometry opened p.table ≡ header_of (Some h)
  pub so : LooksSo s key opened q p p.end
