-- How many verbs a delete does at most, whatever is answered.
use Rattle.std.specs.Prelude.{ℕ, ◌+◌, ◌*◌}
use Rattle.pass_text.specs.Bound.{most_verbs}

-- for each swap that it may lose a look, a Settle and a Remove
abbrev pub delete_round : ℕ → ℕ
delete_round max_depth = most_verbs max_depth + 2

abbrev pub delete_verbs : ℕ → ℕ → ℕ
delete_verbs max_depth tries = tries * delete_round max_depth
