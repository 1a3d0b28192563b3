-- How many verbs and hashes a whole call does at most.
use Rattle.std.specs.Prelude.{ℕ, ◌+◌, ◌*◌, ◌^◌}
use Rattle.node_words.specs.declared.geometry.Geometry.{Geometry}
use Rattle.pass_text.specs.Bound.{most_verbs}

-- S: a split but for its lost swaps
abbrev pub split_most : Geometry → ℕ
split_most g = 24 * g.groups * 300 + 2 ^ (g.max_depth + 2) + 400

-- a part of a call: two passes and a split, with what is between them
abbrev pub round_most : Geometry → ℕ
round_most g = 2 * most_verbs g.max_depth + split_most g + 400

-- B: so many parts
abbrev pub call_most : Geometry → ℕ → ℕ
call_most g tries = (tries + 2 * g.max_depth + 4) * round_most g
