-- The words that an image keeps.
use Rattle.std.specs.Prelude.{cond, nat_lt}
use Rattle.node_words.specs.declared.geometry.Geometry.{Geometry}
use Rattle.node_words.specs.Addresses.{node_of, node_at}
use Rattle.node_words.specs.Opening.{opening_word}
use Rattle.image_laws.specs.Walk.{Words}

-- each node's words up to the one before its next word; all others are the opening's
abbrev pub imaged : Geometry → Words → Words
imaged g w a = cond (nat_lt a (w (node_at g (node_of g a)))) (w a) (opening_word g a)
