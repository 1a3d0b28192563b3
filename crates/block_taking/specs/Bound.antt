-- How many verbs a taking does at most, whatever is answered.
use Rattle.std.specs.Prelude.{ℕ, ◌+◌}
use Rattle.block_taking.specs.declared.taking.Taking.{Taking}
use Rattle.block_taking.specs.Text.{need}

-- a read of each node, a Take for each swap that may be lost, and the words of the block
abbrev pub taking_verbs : Taking → ℕ → ℕ
taking_verbs t left = t.geometry.nodes + left + need t
