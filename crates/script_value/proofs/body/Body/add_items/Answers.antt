use Rattle.std.proofs.Common.{List, ◌++◌, length, ◌∙◌, sym, ap, arith}
use Rattle.std.proofs.lemmas.Bool.{eqb-true, eqb-false}
use Rattle.map_model.specs.declared.plans.Item.{Item}
use Rattle.script_value.specs.Content.{Content}
use Rattle.script_value.specs.Made.{made_schedules}
use Rattle.script_value.proofs.OfCalls.{next-line, no-line}
use Rattle.script_value.proofs.body.Body.add_items.Goals as goal

pub loop-rest-preserved : goal.loop-rest-preserved
loop-rest-preserved c =
    let rest = c.loop-rest.rest.now in
    let line = c.append.new.self.items in
    let others = c.split_at.result.1.now in
    let more = eqb-false (length rest) 0 (sym c.is_empty.ensures ∙ c.loop-rest-test.true) in
    let front = c.in_ok-append.ensures.appended ∙ ap (λ (items : List Item). items ++ c.split_at.result.0.now) c.new-schedule.ensures ∙ c.split_at.ensures.front in
    ap (λ (body : Content). record body { schedules = body.schedules ++ made_schedules others }) c.in_ok-add_schedule.ensures
    ∙ next-line c.loop-rest.self rest line others c.min.result (omega (arith, more)) c.min.ensures front c.split_at.ensures.back
    ∙ c.loop-rest.invariant

pub returns : goal.returns
returns c =
    sym (no-line c.loop-rest.self c.loop-rest.rest.now (eqb-true (length c.loop-rest.rest.now) 0 (sym c.is_empty.ensures ∙ c.loop-rest-test.false))) ∙ c.loop-rest.invariant
