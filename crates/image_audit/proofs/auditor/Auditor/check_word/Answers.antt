use Rattle.std.proofs.Common.{◌+◌, ◌-◌, arith, ap, ◌∙◌}
use Rattle.node_words.specs.declared.geometry.Geometry.{Geometry}
use Rattle.image_audit.proofs.Judging.{birth_judged, header_judged, low_judged, overflow_judged, bucket_judged, judged_at}
use Rattle.image_audit.proofs.auditor.Auditor.check_word.Goals as goal

pub returns-then-offset-eq0-clause-judged : goal.returns-then-offset-eq0-clause-judged
returns-then-offset-eq0-clause-judged g c = birth_judged _ _ _ _ c.args.table.now c.args.offset _ _ _ c.if-offset-eq0.true c.word-word.result c.birth_word_of.result (c.word-word.ensures ∙ ap (λ v. g.M.Memory.words c.args.memory.now (c.args.table.now.at + v)) c.from.ensures) c.birth_word_of.ensures

pub returns-then-offset-eq1-clause-judged : goal.returns-then-offset-eq1-clause-judged
returns-then-offset-eq1-clause-judged g c = header_judged _ _ _ _ c.args.table.now c.args.offset _ _ _ c.if-offset-eq1.true _ c.word-word.result c.geometry.result.max_depth (c.word-word.ensures ∙ ap (λ v. g.M.Memory.words c.args.memory.now (c.args.table.now.at + v)) c.from.ensures) (ap (λ (v : Geometry). v.max_depth) c.geometry.ensures) c.is_plain_from.ensures

pub returns-then-offset-lt4-clause-judged : goal.returns-then-offset-lt4-clause-judged
returns-then-offset-lt4-clause-judged g c = low_judged _ _ _ _ c.args.table.now c.args.offset _ _ _ c.if-offset-eq0.false c.if-offset-eq1.false c.if-offset-lt4.true c.word-word.result (c.word-word.ensures ∙ ap (λ v. g.M.Memory.words c.args.memory.now (c.args.table.now.at + v)) c.from.ensures)

pub returns-then-offset-lt20-clause-judged : goal.returns-then-offset-lt20-clause-judged
returns-then-offset-lt20-clause-judged g c = judged_at _ _ _ _ c.args.table.now c.args.offset (4 + (c.args.offset - 4)) _ _ _ _ _ _ _ (omega arith) (c.in_ok-fine.ensures.judged (g.P.Placer.listed c.args.placer.now))

pub returns-then-place-ne0-clause-judged : goal.returns-then-place-ne0-clause-judged
returns-then-place-ne0-clause-judged g c = judged_at _ _ _ _ c.args.table.now c.args.offset (20 + (c.args.offset - 20)) _ _ _ _ _ _ _ (omega arith) c.in_ok-fine-2.ensures.judged

pub returns-then-place-eq8-clause-judged : goal.returns-then-place-eq8-clause-judged
returns-then-place-eq8-clause-judged g c = overflow_judged _ _ _ _ c.args.table.now c.args.offset _ _ _ (c.args.offset - 20) (omega arith) c.if-place-eq8.true c.word-word.result (c.word-word.ensures ∙ ap (λ v. g.M.Memory.words c.args.memory.now (c.args.table.now.at + v)) c.from.ensures)

pub returns-clause-judged : goal.returns-clause-judged
returns-clause-judged g c = bucket_judged _ _ _ _ c.args.table.now c.args.offset _ _ _ (c.args.offset - 20) (omega arith) c.if-place-ne0.false c.if-place-eq8.false c.word-word.result c.word.result (c.word-word.ensures ∙ ap (λ v. g.M.Memory.words c.args.memory.now (c.args.table.now.at + v)) c.from.ensures) c.word.ensures
