use Rattle.std.proofs.Common.{◌≡◌, length, ◌∙◌}
use Rattle.node_image.proofs.WordRuns.{replayed_more}
use Rattle.node_image.proofs.replaying.replay.Goals as goal

pub loop-n-preserved : goal.loop-n-preserved
loop-n-preserved c =
    let len : length c.put.new.words ≡ length c.loop-n.words = c.put.auto.words in
    record {
      words = replayed_more c.args.log.now.geometry c.args.log.now.entries c.loop-n.n c.args.start c.entry-entry.result c.loop-n.words c.put.new.words c.entry-entry.ensures.there len c.loop-n.invariant.words (λ w e. c.put.ensures w e);
      same = len ∙ c.loop-n.invariant.same;
    }
