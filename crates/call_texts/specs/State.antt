-- What a client keeps from call to call, and what a whole call comes to.
use Rattle.std.specs.Prelude.{ℕ, ◌%◌, ◌^◌, List, [], ◌∷◌, ◌++◌, map, take, slice_set, Option, Some, None}
use Rattle.std.specs.Option.{option_to_list}
use Rattle.kv_block.specs.Packing.{Pair}
use Rattle.map_model.specs.declared.calls.Reply.{Reply}
use Rattle.node_words.specs.declared.geometry.Geometry.{Geometry}
use Rattle.dir_cache.specs.Cached.{Cached, unless_names}
use Rattle.block_taking.specs.declared.taking.Area.{Area}
use Rattle.split_text.specs.declared.site.Ticket.{Ticket}

-- the sizes of the memory, the client's number, how many swaps a call may lose, the cached directory, the split that is open, and the
-- words that were taken and not yet cut
pub record State : Type 0 where
  pub geometry : Geometry
  pub client : ℕ
  pub tries : ℕ
  pub cache : Cached
  pub ticket : Option Ticket
  pub area : Area

-- the reply with the blocks that it is of: before and after a change (0 for none), for Found and Exists the block that was read
-- twice, else 0 twice. For the cache: the hash of the call's key, `table`, where the last pass ended (None where the call made
-- none), `forgotten`, the tables that splits of the call had forgotten before that pass, and `split`, the one that was split after
-- it. `area` and `ticket` are what the client has then
pub record CallEnd : Type 0 where
  pub reply : Reply
  pub source : ℕ
  pub target : ℕ
  pub hash : ℕ
  pub table : Option ℕ
  pub forgotten : List ℕ
  pub split : Option ℕ
  pub area : Area
  pub ticket : Option Ticket

-- these tables are forgotten
abbrev pub forgetting : List ℕ → Cached → Cached
forgetting [] cache = cache
forgetting (t ∷ ts) cache = forgetting ts (record { depth = cache.depth; entries = map (unless_names t) cache.entries })

-- the entry of a hash names the table where a pass has ended, where there was one
abbrev pub refreshed : ℕ → Option ℕ → Cached → Cached
refreshed hash None cache = cache
refreshed hash (Some t) cache = record { depth = cache.depth; entries = slice_set cache.entries (hash % 2 ^ cache.depth) (Some t) }

-- the cache after a call
abbrev pub cache_after : Cached → CallEnd → Cached
cache_after cache e = forgetting (option_to_list e.split) (refreshed e.hash e.table (forgetting e.forgotten cache))

-- what the client keeps after a call
abbrev pub state_after : State → CallEnd → State
state_after k e = record { geometry = k.geometry; client = k.client; tries = k.tries; cache = cache_after k.cache e; ticket = e.ticket; area = e.area }

-- who calls: the sizes of the memory, the client's number, how many swaps the call may lose, and the hash of its key
pub record Caller : Type 0 where
  pub geometry : Geometry
  pub client : ℕ
  pub tries : ℕ
  pub hash : ℕ

abbrev pub caller_of : State → ℕ → Caller
caller_of k hash = record { geometry = k.geometry; client = k.client; tries = k.tries; hash = hash }

-- A call forgets no more tables than this: each split of its own makes its chain deeper, but for one that goes on with a ticket.
abbrev pub most_forgotten : ℕ
most_forgotten = 17

-- one more table is forgotten
abbrev pub with_forgotten : List ℕ → ℕ → List ℕ
with_forgotten tables t = take most_forgotten (tables ++ t ∷ [])

-- from what a part of an insert starts: a cached table, a block that was never placed, how many swaps may still be lost, and the table
-- whose header was read as plain at the greatest depth
pub record Inserting : Type 0 where
  pub start : Option ℕ
  pub kept : Option ℕ
  pub left : ℕ
  pub full : Option ℕ
  pub forgotten : List ℕ
  pub area : Area
  pub ticket : Option Ticket

-- from what a part of a call starts: of an insert of this pair, or of a resize that walks to this key, from a cached table, may lose so
-- many swaps, and whose client has this area
pub data Stage : Type 0 where
  inserting : Caller → Pair → Inserting → Stage
  walking : Caller → List ℕ → Option ℕ → ℕ → Area → Stage
