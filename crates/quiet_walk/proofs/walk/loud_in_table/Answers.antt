use Rattle.std.proofs.Common.{◌<◌, ap, ◌∙◌, subst, refl}
use Rattle.node_words.specs.Addresses.{table_words}
use Rattle.quiet_walk.proofs.Walking.{word_quiet, word_loud}
use Rattle.quiet_walk.proofs.walk.loud_in_table.Goals as goal

pub returns-then-not-is_quiet : goal.returns-then-not-is_quiet
returns-then-not-is_quiet g c = word_loud (g.M.Memory.words c.args.memory.now) c.args.table.now c.loop-offset.offset (table_words (g.M.Memory.shape c.args.memory.now))
    (subst (λ v. c.loop-offset.offset < v) (c.table_words-words.ensures ∙ ap table_words c.geometry.ensures) c.loop-offset-test.true) c.loop-offset.invariant (λ q. let x = c.if-not-is_quiet.ensures.1 q in cc)

pub loop-offset-preserved : goal.loop-offset-preserved
loop-offset-preserved g c = word_quiet (g.M.Memory.words c.args.memory.now) c.args.table.now c.loop-offset.offset c.loop-offset.invariant (c.if-not-is_quiet.ensures.0 refl)
