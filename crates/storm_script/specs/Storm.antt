-- The script of a storm: its calls and its items are drawn from one state, the calls first, client by client.
use Rattle.std.specs.Prelude.{ℕ, zero, suc, ◌+◌, ◌*◌, ◌/◌, ◌%◌, ◌^◌, ◌==◌, ◌||◌, if◌then◌else◌, List, [], ◌∷◌, ◌++◌, map, codes}
use Rattle.std.proofs.Common.{refl, lit≤}
use Rattle.std.specs.Fmt.{decimal}
use Rattle.map_model.specs.declared.calls.Call.{Call}
use Rattle.map_model.specs.declared.calls.Call.TheVariants.{Insert, Search, Update, Delete}
use Rattle.map_model.specs.declared.plans.Item.{Item}
use Rattle.map_model.specs.declared.plans.Item.TheVariants.{Verbs}
use Rattle.node_words.specs.declared.geometry.Geometry.{Geometry}
use Rattle.spelling.specs.Words.{made_name}
use Rattle.script_value.specs.Content.{ScriptValue, no_content}
use Rattle.script_value.specs.Made.{made_schedules}
use Rattle.storm_script.specs.Draws.{drawn_numbers, state_after}

-- the sizes of the table of every storm
abbrev pub storm_geometry : Geometry
storm_geometry = record { groups = 4; max_depth = 8; first_depth = 0; nodes = 1; words = 262144; grouped = refl; deep = lit≤ tt; begins = lit≤ tt; some = lit≤ tt; few = lit≤ tt; even = refl; within = lit≤ tt; enough = lit≤ tt }

-- the key of a drawn number: `k` and a number below 200
abbrev pub key_of : ℕ → List ℕ
key_of x = codes "k" ++ decimal (x / 2 ^ 8 % 200)

-- the value of a drawn number: `v` and a number below 1,000
abbrev pub value_of : ℕ → List ℕ
value_of x = codes "v" ++ decimal (x / 2 ^ 32 % 1000)

-- the call of a kind below 8: inserts are 0, 1, 2 and 7
abbrev pub call_of_kind : ℕ → List ℕ → List ℕ → Call
call_of_kind kind key value =
    if (kind == 3) || (kind == 4) then Search key
    else if kind == 5 then Update key value
    else if kind == 6 then Delete key
    else Insert key value

-- the call of a drawn number
abbrev pub storm_call : ℕ → Call
storm_call x = call_of_kind (x % 8) (key_of x) (value_of x)

-- the item of a drawn number: 1 to 16 verbs of one of the clients
abbrev pub storm_item : ℕ → ℕ → Item
storm_item clients y = Verbs (y % clients) (1 + y / 2 ^ 32 % 16)

-- so many clients, the first of them at this place, each with so many calls, which are drawn from this state on
abbrev pub storm_clients : ℕ → ℕ → ℕ → ℕ → List (List ℕ × List Call)
storm_clients zero place calls state = []
storm_clients (suc clients) place calls state =
    (made_name place, map storm_call (drawn_numbers calls state)) ∷ storm_clients clients (place + 1) calls (state_after calls state)

-- the items of so many clients with so many calls each, which are drawn from this state on
abbrev pub storm_items : ℕ → ℕ → ℕ → List Item
storm_items clients calls state = map (storm_item clients) (drawn_numbers (8 * clients * calls) state)

-- the script of a storm: a `race 1` script with no hash and no stop line
abbrev pub storm_value : ℕ → ℕ → ℕ → ScriptValue
storm_value seed clients calls = record {
  version = 1;
  geometry = storm_geometry;
  tries = 16;
  content = record no_content {
    clients = storm_clients clients 0 calls seed;
    schedules = made_schedules (storm_items clients calls (state_after (clients * calls) seed));
  };
}
