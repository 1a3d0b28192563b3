use Rattle.std.proofs.Common.{◌≡◌, map}
use Rattle.std.specs.List.{range_with_len}
use Rattle.node_words.specs.Opening.{opening_word}
use Rattle.verb_log.proofs.changing.opening_words.Given as goal

abbrev pub invariant-loop-at : goal.invariant-loop-at
invariant-loop-at l = l.words.items ≡ map (opening_word l.geometry) (range_with_len 0 l.at)
