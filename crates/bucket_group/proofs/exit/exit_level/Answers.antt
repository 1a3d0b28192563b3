use Rattle.std.proofs.Common.{◌∙◌, None, Some, sym}
use Rattle.std.proofs.lemmas.Nat.{and_mask}
use Rattle.bucket_group.proofs.ExitLaws.{bit_not, exit-found, exit-next, exit-end, exit-tells_some, exit-tells_none}
use Rattle.bucket_group.proofs.exit.exit_level.Goals as goal

pub returns-then-hash-level-eq1-clause-level : goal.returns-then-hash-level-eq1-clause-level
returns-then-hash-level-eq1-clause-level c =
    sym (exit-found c.args.hash c.loop-level.level c.loop-level-test.true (sym (and_mask _ 1) ∙ c.if-hash-level-eq1.true)) ∙ c.loop-level.invariant

pub returns-then-hash-level-eq1-clause-least : goal.returns-then-hash-level-eq1-clause-least
returns-then-hash-level-eq1-clause-least c =
    exit-tells_some c.args.hash c.args.birth_depth (Some c.loop-level.level)
    (sym (exit-found c.args.hash c.loop-level.level c.loop-level-test.true (sym (and_mask _ 1) ∙ c.if-hash-level-eq1.true)) ∙ c.loop-level.invariant)

pub loop-level-preserved : goal.loop-level-preserved
loop-level-preserved c =
    sym (exit-next c.args.hash c.loop-level.level c.loop-level-test.true (bit_not c.args.hash c.loop-level.level (λ e. c.if-hash-level-eq1.false (and_mask _ 1 ∙ e)))) ∙ c.loop-level.invariant

pub returns-clause-level : goal.returns-clause-level
returns-clause-level c = sym (exit-end c.args.hash c.loop-level.level c.loop-level-test.false) ∙ c.loop-level.invariant

pub returns-clause-none : goal.returns-clause-none
returns-clause-none c =
    exit-tells_none c.args.hash c.args.birth_depth None (sym (exit-end c.args.hash c.loop-level.level c.loop-level-test.false) ∙ c.loop-level.invariant)
