-- How many verbs a pass does at most, whatever is answered.
use Rattle.std.specs.Prelude.{ℕ, ◌+◌, ◌-◌, ◌*◌}
use Rattle.pass_text.specs.declared.job.Job.{Job}
use Rattle.pass_text.specs.Words.{left_in}

-- P: for a table more than there are levels, each of 28 candidates read with its word and a block of 137 words, and the
-- verbs between two tables; and those at the start
abbrev pub most_verbs : ℕ → ℕ
most_verbs max_depth = (max_depth + 2) * (28 * 138 + 4) + 4

-- P, and for each drop of a sweep that is lost, but for the one with which it ends: another block and another drop
abbrev pub pass_verbs : Job → ℕ
pass_verbs j = most_verbs j.geometry.max_depth + 138 * (left_in j.mode - 1)
