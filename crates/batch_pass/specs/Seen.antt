-- What a posted look has seen, by what it remembers; and which candidates there are.
use Rattle.std.specs.Prelude.{ℕ, ◌<◌, length}
use Rattle.bucket_group.specs.Buckets.{candidates}
use Rattle.pass_text.specs.declared.job.Job.{Job}
use Rattle.pass_text.specs.Pass.{Seen}
use Rattle.batch_pass.specs.declared.scan.Scan.{Scan}

abbrev pub seen : Scan → Seen
seen s = record {
  opened = s.opened;
  table = s.table;
  birth_depth = s.birth_depth;
  parent = s.parent;
  head = s.head;
  free = s.free;
  moved = s.moved;
  prior = s.prior;
  lost = 0;
}

-- the number of a candidate of the key
abbrev pub IsRead : Job → ℕ → Type 0
IsRead j i = (i < length (candidates j.geometry.groups j.hash)) × (i < 28)
