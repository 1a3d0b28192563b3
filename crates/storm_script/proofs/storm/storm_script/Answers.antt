use Rattle.std.proofs.Common.{◌≤◌, length, ap, sym, subst, ◌∙◌, arith}
use Rattle.std.specs.List.{AllByRecursion}
use Rattle.script_value.specs.Valid.{IsItem, call_count}
use Rattle.script_value.specs.Made.{made_script}
use Rattle.script_value.specs.ScriptText.{text_of_script}
use Rattle.script_value.proofs.OfCalls.{length-made, made-calls}
use Rattle.storm_script.specs.Draws.{drawn_numbers}
use Rattle.storm_script.proofs.Texts.{items-known, storm-calls, length-clients, storm-short, few-items}
use Rattle.storm_script.proofs.storm.storm_script.Goals as goal

pub of_calls-requires-clause-plans_least : goal.of_calls-requires-clause-plans_least
of_calls-requires-clause-plans_least c =
    let number = sym (length-made 0 c.in_ok-plans.plans.items) ∙ ap length c.in_ok-plans.ensures.clients ∙ length-clients c.args.clients 0 c.args.calls c.args.seed in
    let least = c.requires.clients_least in
    omega (arith, number, least)

pub of_calls-requires-clause-plans_most : goal.of_calls-requires-clause-plans_most
of_calls-requires-clause-plans_most c =
    let number = sym (length-made 0 c.in_ok-plans.plans.items) ∙ ap length c.in_ok-plans.ensures.clients ∙ length-clients c.args.clients 0 c.args.calls c.args.seed in
    let most = c.requires.clients_most in
    omega (arith, number, most)

pub of_calls-requires-clause-calls : goal.of_calls-requires-clause-calls
of_calls-requires-clause-calls c =
    let number = sym (made-calls 0 c.in_ok-plans.plans.items) ∙ ap call_count c.in_ok-plans.ensures.clients in
    let few = storm-calls c.args.clients 0 c.args.calls c.args.seed c.requires.calls_most in
    let most = c.requires.clients_most in
    omega (arith, number, few, most)

pub of_calls-requires-clause-items : goal.of_calls-requires-clause-items
of_calls-requires-clause-items c =
    let number = sym (length-made 0 c.in_ok-plans.plans.items) ∙ ap length c.in_ok-plans.ensures.clients ∙ length-clients c.args.clients 0 c.args.calls c.args.seed in
    subst (λ n. AllByRecursion (IsItem n) c.in_ok-items.items.items) (sym number)
    (subst (AllByRecursion (IsItem c.args.clients)) (sym c.in_ok-items.ensures) (items-known c.args.clients (drawn_numbers _ _) c.requires.clients_least))

pub of_calls-requires-clause-short : goal.of_calls-requires-clause-short
of_calls-requires-clause-short c =
    subst (λ g. length (text_of_script (made_script g 16 c.in_ok-plans.plans.items c.in_ok-items.items.items)) ≤ 4194304) (sym c.storm_geometry.ensures)
    (storm-short c.in_ok-plans.plans.items c.in_ok-items.items.items c.args.clients c.args.calls c.args.seed _ _ c.requires.clients_most c.requires.calls_most
    (few-items c.args.clients c.args.calls c.requires.clients_most c.requires.calls_most) c.in_ok-plans.ensures.clients c.in_ok-items.ensures)
