use Rattle.std.proofs.Common.{[], List, ◌∙◌, sym, ap, subst}
use Rattle.map_model.specs.declared.plans.Plan.{Plan}
use Rattle.script_value.specs.Content.{Content, ScriptValue}
use Rattle.script_value.specs.Valid.{IsScript, Each, IsClient}
use Rattle.script_value.specs.Made.{made_clients}
use Rattle.script_value.proofs.OfCallsScript.{made-is-script, content-made}
use Rattle.script_value.proofs.script.Script.of_calls.Goals as goal

pub of_parts-requires : goal.of_parts-requires
of_parts-requires c =
    let content = content-made c.in_ok-body.body c.add_items.new.self _ _ c.args.plans.items c.args.items.items c.in_ok-add_items.ensures c.in_ok-body.ensures.made c.as_slice.ensures c.as_slice-2.ensures in
    let clients = subst (λ (plans : List Plan). Each (IsClient 16) [] (made_clients 0 plans)) c.as_slice.ensures c.in_ok-body.ensures.clients in
    subst (λ (content : Content). IsScript (record { version = 1; geometry = c.args.geometry; tries = c.args.tries; content = content })) (sym content)
    (made-is-script c.args.geometry c.args.tries c.args.plans.items c.args.items.items c.requires.depth c.requires.first c.requires.nodes c.requires.tries_least c.requires.tries_most c.requires.plans_least
    c.requires.calls c.requires.items clients c.requires.short)

pub returns : goal.returns
returns c =
    let content = content-made c.in_ok-body.body c.add_items.new.self _ _ c.args.plans.items c.args.items.items c.in_ok-add_items.ensures c.in_ok-body.ensures.made c.as_slice.ensures c.as_slice-2.ensures in
    c.of_parts.ensures ∙ ap (λ (content : Content). (let script : ScriptValue = record { version = 1; geometry = c.args.geometry; tries = c.args.tries; content = content } in script)) content
