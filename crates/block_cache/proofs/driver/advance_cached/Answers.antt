use Rattle.std.proofs.Common.{ap}
use Rattle.verbs.specs.Programs.{do_verb}
use Rattle.block_cache.proofs.KeptLemmas.{act_of, told_by}
use Rattle.block_cache.proofs.driver.advance_cached.Goals as goal

pub returns-in-Some-next-clause-went : goal.returns-in-Some-next-clause-went
returns-in-Some-next-clause-went g c told =
    let v = g.V.Verbs in
    let m = g.C.Call in
    let done = c.perform-word.ensures in (
      do_verb c.block-block.result c.in-Some-next.verb,
      c.perform-word.result,
      act_of (m.rest c.args.call.now) c.block-block.result c.in-Some-next.verb c.in-Some-next.ensures c.block-block.ensures,
      done.step,
      c.feed.ensures.rest,
      done.cache,
      told_by c.args.cache.now c.block-block.result c.in-Some-next.verb c.perform-word.result (v.trace c.args.node.now) (v.trace c.perform-word.new.node) (λ e. ap v.trace (done.served e)) done.done,
    )
