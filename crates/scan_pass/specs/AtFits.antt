-- What is known of each place where a pass stands.
use Rattle.std.specs.Prelude.{◌+◌, ◌≤◌, ◌<◌, ◌^◌}
use Rattle.std.proofs.Props.{props}
use Rattle.pass_text.specs.declared.job.Job.{Job}
use Rattle.scan_pass.specs.declared.scan.Scan.{Scan}
use Rattle.scan_pass.specs.declared.at.At.{At}
use Rattle.scan_pass.specs.declared.at.At.TheVariants.{Depth, Directory, Header, Parent, Birth, Slot, Block, Drop, KeyHeader, Child, Held, Clear, Gone, Spent}
use Rattle.scan_pass.specs.Seen.{IsRead}

-- the next table and the table that the pass opened with are addresses; a candidate that is read is one of the key's; a
-- block has 137 words at most; a level is one of a table
abbrev pub AtFits : Job → Scan → At → Type 0
AtFits j s Depth = Unit {0}
AtFits j s Directory = Unit {0}
AtFits j s Header = s.next < 2 ^ 46
AtFits j s Parent = s.opened.table < 2 ^ 46
AtFits j s Birth = s.next < 2 ^ 46
AtFits j s Slot = IsRead j s.index
AtFits j s Block = IsRead j s.index × (s.block.len + s.more + 1 ≤ 137) × (s.next + s.more + 1 < 2 ^ 50)
AtFits j s Drop = IsRead j s.index
AtFits j s KeyHeader = Unit {0}
AtFits j s Child = s.level < 16
AtFits j s Held = IsRead j s.index
AtFits j s Clear = Unit {0}
AtFits j s Gone = Unit {0}
AtFits j s Spent = Unit {0}

pub AtFits-prop : (j : Job) (s : Scan) (at : At) → IsProp (AtFits j s at)
AtFits-prop j s Depth = Prim.hlevel props
AtFits-prop j s Directory = Prim.hlevel props
AtFits-prop j s Header = Prim.hlevel props
AtFits-prop j s Parent = Prim.hlevel props
AtFits-prop j s Birth = Prim.hlevel props
AtFits-prop j s Slot = Prim.hlevel props
AtFits-prop j s Block = Prim.hlevel props
AtFits-prop j s Drop = Prim.hlevel props
AtFits-prop j s KeyHeader = Prim.hlevel props
AtFits-prop j s Child = Prim.hlevel props
AtFits-prop j s Held = Prim.hlevel props
AtFits-prop j s Clear = Prim.hlevel props
AtFits-prop j s Gone = Prim.hlevel props
AtFits-prop j s Spent = Prim.hlevel props
