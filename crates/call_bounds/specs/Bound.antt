-- How many verbs and hashes the parts of a call do at most but for its lost swaps, and what a lost swap costs.
use Rattle.std.specs.Prelude.{ℕ, ◌+◌, ◌*◌}
use Rattle.node_words.specs.declared.geometry.Geometry.{Geometry}
use Rattle.call_texts.specs.Bound.{split_most}

-- a lost swap: where it costs most, a word was found in a table under split, and its block is read and hashed again
abbrev pub loss_most : ℕ
loss_most = 300

-- a pass: the verbs at its start, and a table for each level and one more, each of 28 candidates read with its word, a block of 137
-- words and its drop, and the verbs between two tables
abbrev pub tables_most : ℕ → ℕ
tables_most max_depth = (max_depth + 1) * (28 * 139 + 2) + 5

-- a part of an insert: a look; the parent's header and its split's help; 28 places of the parent with their blocks and hashes; a block
-- taken from 8 nodes; the Place, a sweep, the own word withdrawn, and the Commit
abbrev pub part_most : Geometry → ℕ
part_most g = 2 * tables_most g.max_depth + (2 + 2 * g.groups) + 28 * 139 + 149

-- a part of a whole insert: a part, and a split
abbrev pub insert_most : Geometry → ℕ
insert_most g = part_most g + split_most g
