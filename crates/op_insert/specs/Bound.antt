-- How many verbs and hashes an insert does at most, whatever is answered.
use Rattle.std.specs.Prelude.{ℕ, ◌+◌, ◌*◌}
use Rattle.pass_text.specs.Bound.{most_verbs}
use Rattle.op_insert.specs.Text.{Inserting, parts_of}

-- a part: a look; the parent's header and its split's help; 28 places of the parent with their blocks and hashes; a block taken from
-- 8 nodes; the Place, a sweep, and the Commit or the own word withdrawn; 139 for each swap that may be lost
abbrev pub part_verbs : Inserting → ℕ
part_verbs i = 2 * most_verbs i.job.geometry.max_depth + (2 + 2 * i.job.geometry.groups) + 28 * 139 + 148 + 139 * i.tries

abbrev pub insert_verbs : Inserting → ℕ
insert_verbs i = parts_of i * part_verbs i
