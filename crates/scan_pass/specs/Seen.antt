-- What a pass has seen, by what it remembers; and which candidates it reads.
use Rattle.std.specs.Prelude.{ℕ, ◌<◌}
use Rattle.pass_text.specs.declared.job.Job.{Job}
use Rattle.pass_text.specs.Words.{count}
use Rattle.pass_text.specs.Pass.{Seen}
use Rattle.scan_pass.specs.declared.scan.Scan.{Scan}

abbrev pub seen : Scan → Seen
seen s = record {
  opened = s.opened;
  table = s.table;
  birth_depth = s.birth_depth;
  parent = s.parent;
  head = s.head;
  free = s.free;
  moved = s.moved;
  prior = s.prior;
  lost = s.lost;
}

-- the number of a candidate that is read
abbrev pub IsRead : Job → ℕ → Type 0
IsRead j i = (i < count j) × (i < 28)
