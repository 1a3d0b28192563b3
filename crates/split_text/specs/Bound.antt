-- How many acts the parts of a split do at most, whatever is answered.
use Rattle.std.specs.Prelude.{ℕ, ◌+◌, ◌-◌, ◌*◌, ◌^◌}
use Rattle.node_words.specs.declared.geometry.Geometry.{Geometry}

-- the lock, the header, the words of 8 nodes, the child's words, Link, Begin and Open, or Unlock; and a Take for each that is lost
abbrev pub begin_acts : Geometry → ℕ → ℕ
begin_acts g left = 4 * g.groups + 20 + left

-- the word, and for each swap that may be lost: a block twice and its hash twice, the slot read again, and the swaps of its place
abbrev pub judge_acts : ℕ → ℕ
judge_acts left = 285 + 285 * (left - 1)

-- S, and for each swap that may be lost, but for the one with which it ends, one more place
abbrev pub resize_acts : Geometry → ℕ → ℕ
resize_acts g left = 24 * g.groups * 300 + 2 ^ (g.max_depth + 2) + 400 + 300 * (left - 1)
