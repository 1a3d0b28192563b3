-- When a client may go on with a ticket.
use Rattle.std.specs.Prelude.{◌≡◌, ◌≢◌, ℕ, ◌<◌, Option}
use Rattle.verb_log.specs.Tables.{Past}
use Rattle.race_laws.specs.Setting.{Setting}
use Rattle.race_laws.specs.Splits.{WasClear}
use Rattle.race_laws.specs.Rows.{IsPlace}
use Rattle.split_text.specs.declared.site.Site.{Site}
use Rattle.split_text.specs.declared.site.Ticket.{Ticket}
use Rattle.split_text.specs.Words.{slot_count, place_of}
use Rattle.move_laws.specs.States.{Opened, Still, Bare, or_zero, Judging}

-- around a place, whose slot has number i: the split is open, no other place of the table is moved and none of the child is a copy, and
-- the slots of lower numbers were clear
pub record Around (s : Setting) (c : ℕ) (site : Site) (p i : ℕ) (q : Past) : Type 0 where
  pub open_now : Opened s c site q
  pub still : (r : ℕ) → IsPlace s.geometry r → r ≢ p → Still s site.table q r
  pub bare : (r : ℕ) → IsPlace s.geometry r → r ≢ p → Bare s site.child q r
  pub done : (k : ℕ) → k < i → WasClear s q site.table site.depth (place_of k)

-- a client may go on with its ticket: its word was read or found at the place, beside the copy that it tells
pub record Fits (s : Setting) (c : ℕ) (ticket : Ticket) (q : Past) : Type 0 where
  pub geometry : ticket.geometry ≡ s.geometry
  pub client : ticket.client ≡ c
  pub number : ticket.slot < slot_count s.geometry
  pub around : Around s c ticket.site (place_of ticket.slot) ticket.slot q
  pub copy : Option ℕ
  pub copy_is : or_zero copy ≡ ticket.copy
  pub at : Past
  pub judging : Judging s c ticket.site (place_of ticket.slot) ticket.word copy at q
