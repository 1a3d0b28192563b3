use Rattle.std.proofs.Common.{◌+◌, arith, ap, ◌∙◌}
use Rattle.node_words.specs.Addresses.{table_words}
use Rattle.verb_log.specs.Decoded.{header}
use Rattle.race_laws.specs.Standing.{depth}
use Rattle.image_audit.proofs.Children.{zero_judged, unwanted_judged, high_judged, used_judged, added_judged, added_small}
use Rattle.image_audit.proofs.auditor.Auditor.check_child.Goals as goal

pub returns-then-child-eq0-clause-judged : goal.returns-then-child-eq0-clause-judged
returns-then-child-eq0-clause-judged g c = λ listed before k. zero_judged _ _ _ _ before _ _ _ k c.args.table.now c.args.level c.requires.level c.is_wanted-wanted.result c.depth_of-depth.result c.word-child.result c.is_wanted-wanted.ensures
    (c.depth_of-depth.ensures ∙ ap (λ v. depth (header v)) c.word.ensures) (c.word-child.ensures ∙ ap (λ v. g.M.Memory.words c.args.memory.now (c.args.table.now.at + 4 + v)) c.from.ensures) c.if-child-eq0.true

pub returns-then-not-wanted-clause-judged : goal.returns-then-not-wanted-clause-judged
returns-then-not-wanted-clause-judged g c = λ listed before k. (
  (λ e. absurd (cc)),
  λ e r. unwanted_judged _ _ _ _ before _ _ _ k c.args.table.now c.args.level c.requires.level c.is_wanted-wanted.result c.depth_of-depth.result c.word-child.result c.is_wanted-wanted.ensures
      (c.depth_of-depth.ensures ∙ ap (λ v. depth (header v)) c.word.ensures) (c.word-child.ensures ∙ ap (λ v. g.M.Memory.words c.args.memory.now (c.args.table.now.at + 4 + v)) c.from.ensures)
      c.if-child-eq0.false c.if-not-wanted.true r,
)

pub returns-then-child-ge-LIMIT-clause-judged : goal.returns-then-child-ge-LIMIT-clause-judged
returns-then-child-ge-LIMIT-clause-judged g c = λ listed before k. (
  (λ e. absurd (cc)),
  λ e r. high_judged _ _ _ _ before _ _ _ k c.args.table.now c.args.level c.requires.level c.is_wanted-wanted.result c.depth_of-depth.result c.word-child.result c.is_wanted-wanted.ensures
      (c.depth_of-depth.ensures ∙ ap (λ v. depth (header v)) c.word.ensures) (c.word-child.ensures ∙ ap (λ v. g.M.Memory.words c.args.memory.now (c.args.table.now.at + 4 + v)) c.from.ensures)
      (g.met.M.Memory.apart c.args.memory.now) (g.met.M.Memory.low c.args.memory.now) c.if-child-eq0.false c.if-child-ge-LIMIT.true r,
)

pub returns-then-not-is_free-clause-judged : goal.returns-then-not-is_free-clause-judged
returns-then-not-is_free-clause-judged g c = λ listed before k. (
  (λ e. absurd (cc)),
  λ e r. used_judged _ _ _ _ before _ _ _ k c.args.table.now c.args.level c.requires.level c.is_wanted-wanted.result c.depth_of-depth.result c.word-child.result c.is_wanted-wanted.ensures
      (c.depth_of-depth.ensures ∙ ap (λ v. depth (header v)) c.word.ensures) (c.word-child.ensures ∙ ap (λ v. g.M.Memory.words c.args.memory.now (c.args.table.now.at + 4 + v)) c.from.ensures)
      (g.met.M.Memory.apart c.args.memory.now) (g.met.M.Memory.low c.args.memory.now) c.if-child-eq0.false c.table_words-words.result (c.table_words-words.ensures ∙ ap table_words c.geometry.ensures) (λ fr. let x = c.is_free.ensures.1 fr in let y = c.if-not-is_free.true in cc) r,
)

pub returns-clause-judged : goal.returns-clause-judged
returns-clause-judged g c = λ listed before k. (
  (λ e. added_judged _ _ _ _ before _ _ _ k c.args.table.now c.args.level c.requires.level c.is_wanted-wanted.result c.depth_of-depth.result c.word-child.result c.is_wanted-wanted.ensures
      (c.depth_of-depth.ensures ∙ ap (λ v. depth (header v)) c.word.ensures) (c.word-child.ensures ∙ ap (λ v. g.M.Memory.words c.args.memory.now (c.args.table.now.at + 4 + v)) c.from.ensures)
      (g.met.M.Memory.apart c.args.memory.now) (g.met.M.Memory.low c.args.memory.now) _ _ _ c.if-child-eq0.false c.if-not-wanted.false c.table_words-words.result (c.table_words-words.ensures ∙ ap table_words c.geometry.ensures) (c.is_free.ensures.0 c.if-not-is_free.false) c.in_ok-add.ensures.tables c.in_ok-add.ensures.marked c.in_ok-add.ensures.blocks),
  λ e r. absurd (cc),
)

pub returns-clause-small : goal.returns-clause-small
returns-clause-small g c = λ a. added_small c.args.table.now c.args.level c.requires.level _ _ c.word-child.result c.requires.table (omega arith) (c.is_wanted-wanted.ensures.0 c.if-not-wanted.false).0 c.in_ok-add.ensures.tables a
