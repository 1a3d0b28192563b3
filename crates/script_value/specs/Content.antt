-- What a script has.
use Rattle.std.specs.Prelude.{ℕ, nat_eq, List, [], ◌∷◌, ◌++◌, map, slice_index_or, Option, position}
use Rattle.std.specs.Map.{lookup}
use Rattle.item_list.specs.RoomyList.{RoomyList}
use Rattle.kv_block.specs.Bytes.{key_eq}
use Rattle.map_model.specs.declared.calls.Call.{Call}
use Rattle.map_model.specs.declared.plans.Item.{Item}
use Rattle.node_words.specs.declared.geometry.Geometry.{Geometry}

-- the lines behind the first two: the listed hashes; each client with its calls; the clients' stops, in the order
-- in which they stand, a client by its place; the items of each schedule line
pub record Content : Type 0 where
  pub hashes : List (List ℕ × ℕ)
  pub clients : List (List ℕ × List Call)
  pub stops : List (ℕ × ℕ)
  pub schedules : List (List Item)

-- a whole script
pub record ScriptValue : Type 0 where
  pub version : ℕ
  pub geometry : Geometry
  pub tries : ℕ
  pub content : Content

-- the numbers of line 2
pub record Sizes : Type 0 where
  pub groups : ℕ
  pub max_depth : ℕ
  pub first_depth : ℕ
  pub nodes : ℕ
  pub words : ℕ
  pub tries : ℕ

abbrev pub sizes_of : Geometry → ℕ → Sizes
sizes_of g tries = record { groups = g.groups; max_depth = g.max_depth; first_depth = g.first_depth; nodes = g.nodes; words = g.words; tries = tries }

-- a client and its calls
abbrev pub client_view : List ℕ × RoomyList Call → List ℕ × List Call
client_view e = (e.0, e.1.items)

-- nothing read yet
abbrev pub no_content : Content
no_content = record { hashes = []; clients = []; stops = []; schedules = [] }

-- the names of the clients, in order
abbrev pub names_of : Content → List (List ℕ)
names_of c = map (λ e. e.0) c.clients

-- the calls of the client at this place, counted from 0
abbrev pub calls_at : Content → ℕ → List Call
calls_at c client = (slice_index_or c.clients client (let nobody : List ℕ × List Call = ([], []) in nobody)).1

-- the place of the client of this name
abbrev pub client_at : Content → List ℕ → Option ℕ
client_at c name = position (key_eq name) (names_of c)

-- the stop of the client at this place
abbrev pub stop_at : Content → ℕ → Option ℕ
stop_at c client = lookup (nat_eq client) c.stops

abbrev pub with_hash : Content → List ℕ → ℕ → Content
with_hash c key hash = record c { hashes = c.hashes ++ (key, hash) ∷ [] }

abbrev pub with_client : Content → List ℕ → List Call → Content
with_client c name calls = record c { clients = c.clients ++ (name, calls) ∷ [] }

-- the clients, the last of them with one call more
abbrev pub called : List (List ℕ × List Call) → Call → List (List ℕ × List Call)
called [] call = []
called (e ∷ []) call = (e.0, e.1 ++ call ∷ []) ∷ []
called (e ∷ f ∷ es) call = e ∷ called (f ∷ es) call

abbrev pub with_call : Content → Call → Content
with_call c call = record c { clients = called c.clients call }

abbrev pub with_stop : Content → ℕ → ℕ → Content
with_stop c client stop = record c { stops = c.stops ++ (client, stop) ∷ [] }

abbrev pub with_schedule : Content → List Item → Content
with_schedule c items = record c { schedules = c.schedules ++ items ∷ [] }
