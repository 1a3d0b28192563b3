use Rattle.std.proofs.Common.{◌≡◌, ◌+◌, ap, ◌∙◌, subst, sym, Vec, Global}
use Rattle.image_laws.specs.declared.table.ImageTable.{ImageTable}
use Rattle.quiet_walk.proofs.Levels.{Behind, behind_all, behind_none, behind_some}
use Rattle.quiet_walk.proofs.listing.add_children.Goals as goal
use Rattle.quiet_walk.proofs.listing.add_children.Goals.{then-child-ne0+in_ok-push, else-child-ne0}

pub loop-level-preserved : goal.loop-level-preserved
loop-level-preserved g c =
    let there : c.word-child.result ≡ g.M.Memory.words c.args.memory.now (c.args.table.now.at + 4 + c.loop-level.level) = c.word-child.ensures ∙ ap (λ v. g.M.Memory.words c.args.memory.now (c.args.table.now.at + 4 + v)) c.from.ensures in
    elim c.if-child-ne0.branch [
      | then-child-ne0+in_ok-push w ↦ behind_some (g.M.Memory.shape c.args.memory.now) (g.M.Memory.words c.args.memory.now) c.args.table.now c.args.tables.now.items c.loop-level.tables.items c.if-child-ne0.tables.items c.loop-level.level c.word-child.result c.loop-level.auto.level c.loop-level-test.true there w.if-child-ne0.true (ap (λ (v : Vec ImageTable Global). v.items) w.tables-is ∙ w.in_ok-push.ensures.items) c.loop-level.invariant
      | else-child-ne0 w ↦ subst (λ (v : Vec ImageTable Global). Behind (g.M.Memory.shape c.args.memory.now) (g.M.Memory.words c.args.memory.now) c.args.table.now c.args.tables.now.items v.items (c.loop-level.level + 1)) (sym w.tables-is) (behind_none (g.M.Memory.shape c.args.memory.now) (g.M.Memory.words c.args.memory.now) c.args.table.now c.args.tables.now.items c.loop-level.tables.items c.loop-level.level c.word-child.result c.loop-level.auto.level there w.if-child-ne0.false c.loop-level.invariant)
    ]

pub returns : goal.returns
returns g c = behind_all (g.M.Memory.shape c.args.memory.now) (g.M.Memory.words c.args.memory.now) c.args.table.now c.args.tables.now.items c.loop-level.tables.items c.requires.depth c.loop-level.level c.loop-level-test.false (c.loop-level.auto.level-end c.requires.depth) c.loop-level.invariant
