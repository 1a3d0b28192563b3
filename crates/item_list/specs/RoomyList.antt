-- What a clause sees of a list that grows.
use Rattle.std.specs.Prelude.{ℕ, List}

-- the items in order, and how many more fit before memory is asked for
pub record RoomyList (X : Type 0) : Type 0 where
  pub items : List X
  pub room : ℕ
