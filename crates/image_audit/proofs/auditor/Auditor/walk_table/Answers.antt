use Rattle.std.proofs.Common.{◌≡◌, ◌<◌, arith, ap, sym, ◌∙◌, subst, refl}
use Rattle.node_words.specs.Addresses.{table_words}
use Rattle.image_laws.specs.Walk.{TableWord, words_of}
use Rattle.image_audit.specs.Kept.{setting_of}
use Rattle.image_audit.proofs.Loops.{so_far_word, so_far_stop, so_far_whole, first_words_more, first_words, word_split}
use Rattle.image_audit.proofs.auditor.Auditor.walk_table.Goals as goal

pub returns-then-not-fine-clause-walked : goal.returns-then-not-fine-clause-walked
returns-then-not-fine-clause-walked g c = λ before k.
    let n = c.table_words-words.ensures ∙ ap table_words c.geometry.ensures in
    let low = c.loop-offset-test.true in
    let r = word_split (setting_of (g.M.Memory.shape c.args.memory.now) (g.P.Placer.listed c.args.placer.now)) (g.M.Memory.words c.args.memory.now) (g.M.Memory.place c.args.memory.now) (g.M.Memory.cells c.args.memory.now) c.args.table.now c.loop-offset.offset (table_words (g.M.Memory.shape c.args.memory.now)) (subst (λ v. c.loop-offset.offset < v) n low) in
    so_far_stop (setting_of (g.M.Memory.shape c.args.memory.now) (g.P.Placer.listed c.args.placer.now)) (g.M.Memory.words c.args.memory.now) (g.M.Memory.place c.args.memory.now) (g.M.Memory.cells c.args.memory.now) (TableWord c.args.table.now c.loop-offset.offset) (first_words (setting_of (g.M.Memory.shape c.args.memory.now) (g.P.Placer.listed c.args.placer.now)) (g.M.Memory.words c.args.memory.now) (g.M.Memory.place c.args.memory.now) (g.M.Memory.cells c.args.memory.now) c.args.table.now c.loop-offset.offset) r.0 _ _ _ _ _ _ _ _ _ _ _ c.in_ok-fine.fine c.loop-offset.invariant c.in_ok-fine.ensures.judged c.if-not-fine.true r.1 refl before k

pub returns-then-not-fine-clause-small : goal.returns-then-not-fine-clause-small
returns-then-not-fine-clause-small g c = λ a. c.in_ok-fine.ensures.small (c.loop-offset.invariant.small a)

pub loop-offset-preserved : goal.loop-offset-preserved
loop-offset-preserved g c = so_far_whole _ _ _ _ _ _ _ _ _ _ _ _ (sym (first_words_more (setting_of (g.M.Memory.shape c.args.memory.now) (g.P.Placer.listed c.args.placer.now)) (g.M.Memory.words c.args.memory.now) (g.M.Memory.place c.args.memory.now) (g.M.Memory.cells c.args.memory.now) c.args.table.now c.loop-offset.offset))
    (so_far_word _ _ _ _ (TableWord c.args.table.now c.loop-offset.offset) _ _ _ _ _ _ _ _ _ _ c.in_ok-fine.fine c.loop-offset.invariant c.in_ok-fine.ensures.judged c.if-not-fine.false c.in_ok-fine.ensures.cells c.in_ok-fine.ensures.small)

pub returns-clause-walked : goal.returns-clause-walked
returns-clause-walked g c =
    let n = c.table_words-words.ensures ∙ ap table_words c.geometry.ensures in
    let e : c.loop-offset.offset ≡ c.table_words-words.result = let a = c.loop-offset-test.false in let b = c.loop-offset.auto.offset-end in omega arith in
    (so_far_whole (setting_of (g.M.Memory.shape c.args.memory.now) (g.P.Placer.listed c.args.placer.now)) (g.M.Memory.words c.args.memory.now) (g.M.Memory.place c.args.memory.now) (g.M.Memory.cells c.args.memory.now) _ (words_of (g.M.Memory.shape c.args.memory.now) c.args.table.now) _ _ _ _ _ _
    (ap (first_words (setting_of (g.M.Memory.shape c.args.memory.now) (g.P.Placer.listed c.args.placer.now)) (g.M.Memory.words c.args.memory.now) (g.M.Memory.place c.args.memory.now) (g.M.Memory.cells c.args.memory.now) c.args.table.now) (e ∙ n)) c.loop-offset.invariant).walked
