use Rattle.std.proofs.Common.{◌≡◌, [], take}
use Rattle.script_value.specs.Valid.{Each, IsClient}
use Rattle.script_value.specs.Made.{made_clients, made_content}
use Rattle.script_value.proofs.body.Body.of_plans.Given as goal

-- the clients of the plans so far
abbrev pub invariant-loop-place : goal.invariant-loop-place
invariant-loop-place l = record {
  made : l.body ≡ made_content (take l.place l.plans) [];
  clients : Each (IsClient 16) [] (made_clients 0 (take l.place l.plans));
}
