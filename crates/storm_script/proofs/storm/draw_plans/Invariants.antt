use Rattle.std.proofs.Common.{◌≡◌, ◌-◌, ◌*◌, ◌++◌, length, None}
use Rattle.std.specs.List.{AllByRecursion}
use Rattle.script_value.specs.Made.{made_clients}
use Rattle.storm_script.specs.Draws.{state_after}
use Rattle.storm_script.specs.Storm.{storm_clients}
use Rattle.storm_script.proofs.storm.draw_plans.Given as goal

-- the plans so far, and the clients that are left to draw
abbrev pub invariant-loop-i : goal.invariant-loop-i
invariant-loop-i l = record {
  clients : made_clients 0 l.plans.items ++ storm_clients (l.clients - l.i) l.i l.calls l.draws.state ≡ storm_clients l.clients 0 l.calls l.fn.draws.state;
  number : length l.plans.items ≡ l.i;
  stops : AllByRecursion (λ plan. plan.stop ≡ None) l.plans.items;
  state : state_after ((l.clients - l.i) * l.calls) l.draws.state ≡ state_after (l.clients * l.calls) l.fn.draws.state;
}
