-- Scripts that are made from calls.
use Rattle.std.specs.Prelude.{ℕ, zero, suc, ◌+◌, List, [], ◌∷◌, take, drop, length}
use Rattle.map_model.specs.declared.calls.Call.{Call}
use Rattle.map_model.specs.declared.plans.Item.{Item}
use Rattle.map_model.specs.declared.plans.Plan.{Plan}
use Rattle.node_words.specs.declared.geometry.Geometry.{Geometry}
use Rattle.spelling.specs.Words.{made_name}
use Rattle.script_value.specs.Content.{Content, ScriptValue, no_content}

-- the clients of plans, the first of them at this place
abbrev pub made_clients : ℕ → List Plan → List (List ℕ × List Call)
made_clients place [] = []
made_clients place (plan ∷ plans) = (made_name place, plan.calls.items) ∷ made_clients (place + 1) plans

-- items in schedule lines of 64, the last one shorter where needed; so many lines at most
abbrev pub lines_of_items : ℕ → List Item → List (List Item)
lines_of_items zero items = []
lines_of_items (suc lines) [] = []
lines_of_items (suc lines) (item ∷ items) = take 64 (item ∷ items) ∷ lines_of_items lines (drop 64 (item ∷ items))

abbrev pub made_schedules : List Item → List (List Item)
made_schedules items = lines_of_items (length items) items

-- how many calls plans have
abbrev pub planned_calls : List Plan → ℕ
planned_calls [] = 0
planned_calls (plan ∷ plans) = length plan.calls.items + planned_calls plans

-- the `race 1` script of plans and items, with no hash and no stop line
abbrev pub made_content : List Plan → List Item → Content
made_content plans items = record no_content { clients = made_clients 0 plans; schedules = made_schedules items }

abbrev pub made_script : Geometry → ℕ → List Plan → List Item → ScriptValue
made_script geometry tries plans items = record { version = 1; geometry = geometry; tries = tries; content = made_content plans items }
