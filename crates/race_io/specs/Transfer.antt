-- What a run of reads or writes did to the bytes left of a source or taken by a sink.
use Rattle.std.specs.Prelude.{◌≡◌, ℕ, ◌<◌, ◌≤◌, List, length, take, Option, ◌⊎◌}
use Rattle.std.specs.Io.KnownBytes.{Appends, Consumes, IsAtEnd}

-- `bytes` were taken from the front of what was left: all that was left, or `limit` bytes
pub record TakesAll (old new : Option (List ℕ)) (limit : ℕ) (bytes : List ℕ) : Type 0 where
  pub most : length bytes ≤ limit
  pub front : Consumes old new bytes
  pub whole : (length bytes ≡ limit) ⊎ IsAtEnd new

-- at most `limit` bytes were taken from the front of what was left
abbrev pub TakesSome : Option (List ℕ) → Option (List ℕ) → ℕ → Type 0
TakesSome old new limit = (bytes : List ℕ) × (length bytes ≤ limit) × Consumes old new bytes

-- the first `n` of `bytes` were appended, and not all of them
abbrev pub AppendsPart : Option (List ℕ) → Option (List ℕ) → List ℕ → Type 0
AppendsPart old new bytes = (n : ℕ) × (n < length bytes) × Appends old new (take n bytes)
