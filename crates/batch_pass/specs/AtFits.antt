-- What is known of each place where a posted look stands.
use Rattle.std.specs.Prelude.{◌≡◌, ◌≤◌, ◌<◌, ◌^◌, length}
use Rattle.std.proofs.Props.{props}
use Rattle.pass_text.specs.declared.job.Job.{Job}
use Rattle.batch_pass.specs.declared.scan.Scan.{Scan}
use Rattle.batch_pass.specs.declared.at.At.{At}
use Rattle.batch_pass.specs.declared.at.At.TheVariants.{Depth, Directory, Header, Parent, Birth, Slots, Block, KeyHeader, Child, Held, Clear}
use Rattle.batch_pass.specs.declared.outstanding.Outstanding.{Outstanding}
use Rattle.batch_pass.specs.Seen.{IsRead}
use Rattle.batch_pass.specs.Waiting.{open_in}
use Rattle.batch_pass.specs.Rest.{posted_at}

-- the next table and the table that the look opened with are addresses; a candidate whose block is read is one of the key's, and
-- the block has 1 to 137 words; a level is one of a table
abbrev pub StateFits : Job → Scan → At → Type 0
StateFits j s Depth = Unit {0}
StateFits j s Directory = Unit {0}
StateFits j s Header = s.next < 2 ^ 46
StateFits j s Parent = s.opened.table < 2 ^ 46
StateFits j s Birth = s.next < 2 ^ 46
StateFits j s Slots = Unit {0}
StateFits j s Block = IsRead j s.index × (s.from < 2 ^ 46)
StateFits j s KeyHeader = Unit {0}
StateFits j s Child = s.level < 16
StateFits j s Held = IsRead j s.index
StateFits j s Clear = Unit {0}

pub StateFits-prop : (j : Job) (s : Scan) (at : At) → IsProp (StateFits j s at)
StateFits-prop j s Depth = Prim.hlevel props
StateFits-prop j s Directory = Prim.hlevel props
StateFits-prop j s Header = Prim.hlevel props
StateFits-prop j s Parent = Prim.hlevel props
StateFits-prop j s Birth = Prim.hlevel props
StateFits-prop j s Slots = Prim.hlevel props
StateFits-prop j s Block = Prim.hlevel props
StateFits-prop j s KeyHeader = Prim.hlevel props
StateFits-prop j s Child = Prim.hlevel props
StateFits-prop j s Held = Prim.hlevel props
StateFits-prop j s Clear = Prim.hlevel props

-- how many reads wait, where the look has not ended
abbrev pub SomeWait : At → Outstanding → Type 0
SomeWait Held r = r.left ≡ 0
SomeWait Clear r = r.left ≡ 0
SomeWait _ r = 1 ≤ r.left

pub SomeWait-prop : (at : At) (r : Outstanding) → IsProp (SomeWait at r)
SomeWait-prop Depth r = Prim.hlevel props
SomeWait-prop Directory r = Prim.hlevel props
SomeWait-prop Header r = Prim.hlevel props
SomeWait-prop Parent r = Prim.hlevel props
SomeWait-prop Birth r = Prim.hlevel props
SomeWait-prop Slots r = Prim.hlevel props
SomeWait-prop Block r = Prim.hlevel props
SomeWait-prop KeyHeader r = Prim.hlevel props
SomeWait-prop Child r = Prim.hlevel props
SomeWait-prop Held r = Prim.hlevel props
SomeWait-prop Clear r = Prim.hlevel props

-- those that wait are among the reads that were posted last
abbrev pub Waits : Job → Scan → Outstanding → At → Type 0
Waits j s r at = r.left ≡ open_in (length (posted_at j s at)) r.done
