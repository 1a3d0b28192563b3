-- The words that a client has taken: its area, and a block that it has written and not placed.
use Rattle.std.specs.Prelude.{◌≡◌, ℕ, List, length}
use Rattle.node_words.specs.declared.geometry.Geometry.{Geometry}
use Rattle.verb_log.specs.Tables.{Past, words_at}
use Rattle.race_laws.specs.Setting.{Setting}
use Rattle.race_laws.specs.Rows.{IsTakenBy, IsUnpublished}

-- a client's words: taken by it, and not published
pub record Mine (g : Geometry) (q : Past) (c a n : ℕ) : Type 0 where
  pub taken : IsTakenBy g q c a n
  pub hidden : IsUnpublished g q a n

-- a client's words that hold a block
pub record Block (s : Setting) (c at : ℕ) (ws : List ℕ) (q : Past) : Type 0 where
  pub mine : Mine s.geometry q c at (length ws)
  pub written : words_at s.geometry q at (length ws) ≡ ws
