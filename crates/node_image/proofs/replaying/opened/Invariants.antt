use Rattle.std.proofs.Common.{◌≡◌}
use Rattle.node_words.specs.Opening.{opening_word}
use Rattle.image_laws.specs.Sound.{words_from}
use Rattle.node_image.proofs.replaying.opened.Given as goal

abbrev pub invariant-loop-i : goal.invariant-loop-i
invariant-loop-i l = l.words.items ≡ words_from (opening_word l.geometry) l.start l.i
