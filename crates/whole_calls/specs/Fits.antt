-- When what a client keeps from call to call fits a log.
use Rattle.std.specs.Prelude.{◌≡◌, ℕ, Option, Some, None}
use Rattle.verb_log.specs.Tables.{Past}
use Rattle.race_laws.specs.Setting.{Setting}
use Rattle.race_laws.specs.Legal.{Legal}
use Rattle.dir_cache.specs.Cached.{entry_of}
use Rattle.log_facts.specs.Start.{Start}
use Rattle.log_facts.specs.Since.{Since}
use Rattle.block_taking.specs.Holdings.{Owns}
use Rattle.split_text.specs.declared.site.Ticket.{Ticket}
use Rattle.split_laws.specs.Ticket.{Fits}
use Rattle.call_texts.specs.State.{State}

-- the split of a ticket may be gone on with
abbrev pub TicketFits : Setting → ℕ → Option Ticket → Past → Type 0
TicketFits s c None q = Unit {0}
TicketFits s c (Some ticket) q = Fits s c ticket q

-- it is the client's with these sizes, at least one swap may be lost in a call, each known entry of the cache names a table where a
-- pass of each hash with that index may start, the area's words are the client's, and the ticket may be gone on with
pub record StateFits (s : Setting) (c : ℕ) (q : Past) (k : State) : Type 0 where
  pub geometry : k.geometry ≡ s.geometry
  pub client : k.client ≡ c
  pub depth : k.cache.depth ≡ s.geometry.max_depth
  pub starts : (h t : ℕ) → entry_of k.cache h ≡ Some t → Start s.geometry q h t
  pub owns : Owns s c k.area q
  pub ticket : TicketFits s c k.ticket q

-- a fresh state fits each legal log, whoever did what before
abbrev pub FreshFits : Type 0
FreshFits = (s : Setting) (c : ℕ) (k : State) (q : Past) → k.geometry ≡ s.geometry → k.client ≡ c → k.cache.depth ≡ s.geometry.max_depth → ((h : ℕ) → entry_of k.cache h ≡ None) → k.area.left ≡ 0 → k.ticket ≡ None → StateFits s c q k

-- a state that fits a log fits each legal log that others have made of it
abbrev pub StaysFitting : Type 0
StaysFitting = (s : Setting) (c : ℕ) (k : State) (p q : Past) → Since c p q → Legal s q → StateFits s c p k → StateFits s c q k
