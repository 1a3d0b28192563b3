-- How many verbs a naming does at most, whatever is answered.
use Rattle.std.specs.Prelude.{ℕ, ◌+◌, ◌^◌}

-- the two verbs on the global depth, two for each of the 2 ^ max_depth words at most that are doubled, and no more than three
-- times as many words looked at as there are
abbrev pub naming_verbs : ℕ → ℕ
naming_verbs max_depth = 2 ^ (max_depth + 2) + 2
