use Rattle.std.proofs.Common.{ℕ, List, ◌++◌, ◌+◌, ◌<◌, length, drop, ap, sym, subst, ◌∙◌, append_assoc, arith}
use Rattle.std.specs.List.{flat_map}
use Rattle.item_list.proofs.Pieces.{drop-step, get_or-there}
use Rattle.play_report.specs.declared.report.Line.{Line}
use Rattle.play_report.specs.Report.{outcome_line, IsOfCall}
use Rattle.play_report.proofs.report.put_outcomes.Goals as goal

pub put_outcome_line-requires : goal.put_outcome_line-requires
put_outcome_line-requires c =
    let lines = c.args.lines.now.items in
    let low : c.loop-i.i < length lines = omega (arith, c.loop-i-test.true, c.len-i-end.ensures.value) in
    subst (λ (line : Line). IsOfCall c.args.script.now.content line) (sym (get_or-there lines c.loop-i.i c.get-line.result c.get-line.ensures))
    (c.requires c.loop-i.i c.get-line.result low)

pub loop-i-preserved : goal.loop-i-preserved
loop-i-preserved c =
    let lines = c.args.lines.now.items in
    let text = outcome_line c.args.script.now.content in
    let out = c.loop-i.out.items in
    let next = drop-step lines c.loop-i.i c.get-line.result c.get-line.ensures in
    ap (λ (o : List ℕ). o ++ flat_map text (drop (c.loop-i.i + 1) lines)) c.in_ok-put_outcome_line.ensures
    ∙ append_assoc out (text c.get-line.result) (flat_map text (drop (c.loop-i.i + 1) lines))
    ∙ ap (λ (ls : List Line). out ++ flat_map text ls) (sym next)
    ∙ c.loop-i.invariant
