use Rattle.std.proofs.Common.{◌≡◌, ℕ, ◌++◌, List, [], ◌∷◌, None, length, ap, sym, subst, refl, ◌∙◌, arith}
use Rattle.std.proofs.lemmas.List.{length-append}
use Rattle.std.specs.List.{AllByRecursion}
use Rattle.map_model.specs.declared.calls.Call.{Call}
use Rattle.map_model.specs.declared.plans.Plan.{Plan}
use Rattle.map_model.proofs.Filtered.{append_all}
use Rattle.spelling.specs.Words.{made_name}
use Rattle.script_value.specs.Made.{made_clients}
use Rattle.script_value.proofs.OfCalls.{made-last}
use Rattle.storm_script.proofs.Drawing.{clients-drawn, state-client}
use Rattle.storm_script.proofs.storm.draw_plans.Goals as goal

pub loop-i-preserved : goal.loop-i-preserved
loop-i-preserved c =
    let i = c.loop-i.i in
    let most = c.args.clients in
    let count = c.args.calls in
    let low = c.loop-i-test.true in
    let moved = c.in_ok-own.ensures.state in
    let before = c.loop-i.plans.items in
    let plan : Plan = record { calls = c.in_ok-own.own; stop = None } in
    let pushed = c.in_ok-push.ensures.appended in
    let one = length-append before (plan ∷ []) in
    let number = c.loop-i.invariant.number in
    record {
      clients = clients-drawn (made_clients 0 before) (made_clients 0 c.push.new.self.items) _ c.in_ok-own.own.items most i count c.loop-i.draws.state c.draw_calls.new.draws.state low
          (ap (made_clients 0) pushed ∙ made-last before plan ∙ ap (λ n. made_clients 0 before ++ (let e : List ℕ × List Call = (made_name n, c.in_ok-own.own.items) in e) ∷ []) number)
          c.in_ok-own.ensures.calls moved c.loop-i.invariant.clients;
      number = ap length pushed ∙ omega (arith, one, number);
      stops = subst (AllByRecursion (λ (plan : Plan). plan.stop ≡ None)) (sym pushed) (append_all (λ (plan : Plan). plan.stop ≡ None) before (plan ∷ []) c.loop-i.invariant.stops (refl, tt));
      state = state-client most i count c.loop-i.draws.state c.draw_calls.new.draws.state _ low moved c.loop-i.invariant.state;
    }
