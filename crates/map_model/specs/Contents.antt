-- What the map holds.
use Rattle.std.specs.Prelude.{ℕ, List}
use Rattle.std.specs.FinMap.{FinMap}
use Rattle.kv_block.specs.Bytes.{key_cmp}

-- a value for each key that is there, in the order of the keys' bytes
abbrev pub Contents : Type 0
Contents = FinMap key_cmp (List ℕ)
