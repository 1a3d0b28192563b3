-- How many verbs an update does at most, whatever is answered.
use Rattle.std.specs.Prelude.{ℕ, ◌+◌, ◌*◌}
use Rattle.pass_text.specs.Bound.{most_verbs}
use Rattle.block_taking.specs.Bound.{taking_verbs}
use Rattle.op_update.specs.Text.{Plan}

-- for each swap that it may lose a look, the taking of a block, a Settle and a Replace
abbrev pub update_round : Plan → ℕ
update_round u = most_verbs u.job.geometry.max_depth + (taking_verbs u.taking u.tries + 2)

abbrev pub update_verbs : Plan → ℕ
update_verbs u = u.tries * update_round u
