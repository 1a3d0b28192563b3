use Rattle.std.proofs.Common.{◌≡◌, [], ◌++◌, ◌∷◌, take, ◌+◌, ◌∙◌, sym, subst, arith, ap}
use Rattle.std.proofs.lemmas.List.{length-take-le, take_all, take_more}
use Rattle.script_value.specs.Valid.{Each, IsClient}
use Rattle.script_value.specs.Made.{made_clients, made_content}
use Rattle.script_value.proofs.OfCalls.{fresh-name, few-clients, client-added, client-known}
use Rattle.script_value.proofs.body.Body.of_plans.Goals as goal

pub add_client-requires-clause-fresh : goal.add_client-requires-clause-fresh
add_client-requires-clause-fresh c =
    let plans = c.args.plans.now in
    let place = c.loop-place.place in
    let long = length-take-le place plans (omega arith) in
    fresh-name c.loop-place.body c.in_ok-name.name place (take place plans) c.loop-place.invariant.made c.in_ok-name.ensures (omega (arith, long)) (omega arith)

pub add_client-requires-clause-few : goal.add_client-requires-clause-few
add_client-requires-clause-few c =
    let plans = c.args.plans.now in
    let place = c.loop-place.place in
    let long = length-take-le place plans (omega arith) in
    few-clients c.loop-place.body place (take place plans) c.loop-place.invariant.made (omega (arith, long)) (omega arith)

pub loop-place-preserved : goal.loop-place-preserved
loop-place-preserved c =
    let plans = c.args.plans.now in
    let place = c.loop-place.place in
    let plan = c.index-plans-place.result in
    let long = length-take-le place plans (omega arith) in
    let more : take (place + 1) plans ≡ take place plans ++ plan ∷ [] = take_more plans place plan c.loop-place-test.true ∙ ap (λ p. take place plans ++ p ∷ []) (sym c.index-plans-place.is) in
    let calls = c.in_ok-calls.ensures.same in
    record {
      made = c.in_ok-add_client.ensures ∙ client-added c.loop-place.body c.in_ok-name.name c.in_ok-calls.calls.items (take place plans) plan place c.loop-place.invariant.made c.in_ok-name.ensures calls long
          ∙ ap (λ ps. made_content ps []) (sym more);
      clients = subst (λ ps. Each (IsClient 16) [] (made_clients 0 ps)) (sym more)
          (client-known (take place plans) plan place long (omega arith) c.in_ok-calls.ensures.known c.loop-place.invariant.clients);
    }

pub returns : goal.returns
returns c =
    let all = take_all c.loop-place.place c.args.plans.now c.loop-place-test.false in
    record {
      made = c.loop-place.invariant.made ∙ ap (λ ps. made_content ps []) all;
      clients = subst (λ ps. Each (IsClient 16) [] (made_clients 0 ps)) all c.loop-place.invariant.clients;
    }
