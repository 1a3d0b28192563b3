-- The limits of a geometry's numbers.

use Rattle.std.specs.Prelude.{ℕ, ◌+◌, ◌*◌, ◌^◌, Bool, ◌==◌, ◌||◌}

-- a table may have this many groups
abbrev pub is_group_count : ℕ → Bool
is_group_count n = (n == 1) || (n == 2) || (n == 4) || (n == 8) || (n == 16) || (n == 32) || (n == 64)

-- the words that all nodes together need: for each node the next word, the global depth, the directory and the first tables
abbrev pub words_needed : ℕ → ℕ → ℕ → ℕ → ℕ
words_needed groups max_depth first_depth nodes = nodes * (2 + 2 ^ max_depth + 2 ^ first_depth * (20 + 24 * groups))
