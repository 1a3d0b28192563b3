use Rattle.verbs.proofs.OpeningPut.{begun-front, front-within}
use Rattle.std.proofs.Common.{rules, subst, ◌<◌}
use Rattle.verbs.proofs.opening.put_front.Goals as goal

pub put_opening-requires-clause-place : goal.put_opening-requires-clause-place
put_opening-requires-clause-place c = front-within c.args.geometry.now c.loop-at.at (subst (λ n. c.loop-at.at < n) c.first_free-at-end.ensures c.loop-at-test.true)

pub loop-at-preserved : goal.loop-at-preserved
loop-at-preserved c =
    begun-front c.args.geometry.now c.loop-at.at c.loop-at.words.items c.put_opening.new.words.items c.loop-at.invariant
    (front-within c.args.geometry.now c.loop-at.at (subst (λ n. c.loop-at.at < n) c.first_free-at-end.ensures c.loop-at-test.true)) (search rules)
