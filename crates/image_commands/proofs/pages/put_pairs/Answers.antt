use Rattle.std.proofs.Common.{rules, ◌≡◌, ◌++◌, ◌∷◌, arith, ap, sym, ◌∙◌, subst, append_assoc}
use Rattle.std.specs.List.{flat_map}
use Rattle.race_io.specs.Transfer.{AppendsPart}
use Rattle.play_report.specs.Report.{map_line}
use Rattle.image_commands.proofs.PageTexts.{moves_none, moves_put, moves_then, moves_part, part_in, on_err}
use Rattle.image_commands.proofs.pages.put_pairs.Goals as goal

pub loop-key-init : goal.loop-key-init
loop-key-init g c = record {
  text = c.args.page.now.items;
  moved = moves_none (g.K.Sink.taken c.args.sink.now) c.args.page.now.items;
  rest = ap (λ v. c.args.page.now.items ++ flat_map map_line v) c.pairs-pairs.ensures;
  kept = search rules;
  counted = omega arith;
}

pub loop-key-preserved : goal.loop-key-preserved
loop-key-preserved g c =
    let line = map_line (c.in-Some.key.now, c.in-Some.value.now) in
    let left : c.loop-key.pairs ≡ (c.in-Some.key.now, c.in-Some.value.now) ∷ c.next.new.self = search rules in
    record {
      text = c.loop-key.invariant.text ++ line;
      moved = moves_then _ _ _ (c.loop-key.page.items ++ line) c.put_line.new.page.items (c.loop-key.invariant.text ++ line) (moves_put _ _ c.loop-key.page.items c.loop-key.invariant.text line c.loop-key.invariant.moved) c.in_ok-put_line.ensures.moved;
      rest = append_assoc c.loop-key.invariant.text line (flat_map map_line c.next.new.self) ∙ ap (λ v. c.loop-key.invariant.text ++ flat_map map_line v) (sym left) ∙ c.loop-key.invariant.rest;
      kept = c.in_ok-put_line.ensures.kept ∙ c.loop-key.invariant.kept;
      counted = (let a = c.in_ok-put_line.ensures.counted in let b = c.loop-key.invariant.counted in omega arith);
    }

pub returns-in_err-put_line-clause-part : goal.returns-in_err-put_line-clause-part
returns-in_err-put_line-clause-part g c = on_err c.from_residual.result
    (subst (AppendsPart (g.K.Sink.taken c.args.sink.now) (g.K.Sink.taken c.put_line.new.sink)) c.loop-key.invariant.rest
    (part_in _ _ c.loop-key.invariant.text (flat_map map_line c.loop-key.pairs) (moves_part _ _ _ c.loop-key.page.items c.loop-key.invariant.text c.loop-key.invariant.moved c.in_err-put_line.ensures.part)))
