use Rattle.std.proofs.Common.{◌∷◌, [], ◌++◌, sym, ◌∙◌, ap}
use Rattle.node_words.specs.Opening.{opening_word}
use Rattle.node_image.proofs.WordRuns.{from_more}
use Rattle.node_image.proofs.replaying.opened.Goals as goal

pub loop-i-preserved : goal.loop-i-preserved
loop-i-preserved c = c.in_ok-push.ensures.items ∙ ap (λ v. v ++ c.opening_word.result ∷ []) c.loop-i.invariant ∙ sym (from_more (opening_word c.args.geometry.now) c.args.start c.loop-i.i c.opening_word.result c.opening_word.ensures)
