-- What each client of a script is to do.
use Rattle.std.specs.Prelude.{ℕ, ◌+◌, List, [], ◌∷◌, Option}
use Rattle.map_model.specs.declared.calls.Call.{Call}
use Rattle.map_model.specs.declared.plans.Plan.{Plan}
use Rattle.script_value.specs.Content.{Content, stop_at}

-- a plan's calls and its stop
abbrev pub plan_view : Plan → List Call × Option ℕ
plan_view plan = (plan.calls.items, plan.stop)

-- the calls and the stops of these clients, the first of them at this place
abbrev pub planned_from : ℕ → Content → List (List ℕ × List Call) → List (List Call × Option ℕ)
planned_from client c [] = []
planned_from client c (e ∷ es) = (e.1, stop_at c client) ∷ planned_from (client + 1) c es

-- the calls and the stop of each client
abbrev pub planned : Content → List (List Call × Option ℕ)
planned c = planned_from 0 c c.clients
