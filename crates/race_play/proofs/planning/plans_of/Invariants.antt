use Rattle.std.proofs.Common.{◌≡◌, ◌++◌, map, drop, length}
use Rattle.race_play.specs.Planned.{plan_view, planned, planned_from}
use Rattle.race_play.proofs.planning.plans_of.Given as goal

-- the plans so far, and those of the clients that are left
abbrev pub invariant-loop-client : goal.invariant-loop-client
invariant-loop-client l = record {
  planned : map plan_view l.plans.items ++ planned_from l.client l.script.content (drop l.client l.script.content.clients) ≡ planned l.script.content;
  number : length l.plans.items ≡ l.client;
}
