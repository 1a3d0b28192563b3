use Rattle.std.proofs.Common.{◌≡◌, ◌-◌, ◌+◌, sym, ◌∙◌, arith}
use Rattle.map_model.proofs.LegalSteps.{from_place, back_false, back_true, back_next}
use Rattle.map_model.proofs.histories.are_in_order.Goals as goal

pub returns-then-not-comes_before : goal.returns-then-not-comes_before
returns-then-not-comes_before c =
    let one : c.loop-i.i - 1 + 1 ≡ c.loop-i.i = omega arith in
    let at = from_place c.args.records.now (c.loop-i.i - 1) c.loop-i.i c.index-records-i.result one (omega (arith, c.loop-i.invariant.upto)) c.index-records-i.is in
    sym (back_false c.args.records.now (c.loop-i.i - 1) c.loop-i.i c.index-records-i.result _ at (c.get.ensures.value ∙ c.loop-i.invariant.nexts c.index-records-i.result.client) c.if-not-comes_before.ensures)

pub loop-i-preserved : goal.loop-i-preserved
loop-i-preserved c =
    let one : c.loop-i.i - 1 + 1 ≡ c.loop-i.i = omega arith in
    let at = from_place c.args.records.now (c.loop-i.i - 1) c.loop-i.i c.index-records-i.result one (omega (arith, c.loop-i.invariant.upto)) c.index-records-i.is in
    record {
      upto = omega (arith, c.loop-i.invariant.upto);
      ordered = back_true c.args.records.now (c.loop-i.i - 1) c.loop-i.i c.index-records-i.result _ at (c.get.ensures.value ∙ c.loop-i.invariant.nexts c.index-records-i.result.client) c.if-not-comes_before.ensures c.loop-i.invariant.ordered;
      nexts = λ q. back_next c.args.records.now (c.loop-i.i - 1) c.loop-i.i q c.index-records-i.result _ _ at (c.loop-i.invariant.nexts q) (c.in_ok-insert.ensures.updates.0 q);
    }
