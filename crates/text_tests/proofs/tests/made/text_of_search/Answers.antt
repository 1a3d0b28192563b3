use Rattle.std.proofs.Common.{◌≤◌, List, None, length, sym, subst, arith}
use Rattle.map_model.specs.declared.calls.Call.TheVariants.{Search}
use Rattle.map_model.specs.declared.plans.Plan.{Plan}
use Rattle.script_value.specs.ScriptText.{text_of_script}
use Rattle.script_value.specs.Made.{made_script}
use Rattle.script_value.proofs.OfCallsText.{one-search, first-item}
use Rattle.text_tests.proofs.tests.made.text_of_search.Goals as goal

pub of_calls-requires-clause-short : goal.of_calls-requires-clause-short
of_calls-requires-clause-short c =
    let plan : Plan = record { calls = c.push.new.self; stop = None } in
    let plans = first-item c.new-plans.result.items c.push-2.new.self.items plan c.in_ok-push-2.ensures.appended c.new-plans.ensures in
    let calls = first-item c.new-calls.result.items c.push.new.self.items (Search c.args.key) c.in_ok-push.ensures.appended c.new-calls.ensures in
    subst (λ (plans : List Plan). length (text_of_script (made_script c.args.geometry 3 plans c.args.items.items)) ≤ 4194304) (sym plans)
    (one-search c.args.geometry 3 c.args.key plan c.args.items.items (omega arith) calls (c.bytes.ensures.len, c.bytes.ensures.bytes) c.requires.known c.requires.few)
