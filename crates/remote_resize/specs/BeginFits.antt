-- What is known of each place where the first half of a split stands.
use Rattle.std.specs.Prelude.{ℕ, ◌+◌, ◌*◌, ◌≤◌, ◌<◌, ◌^◌}
use Rattle.std.proofs.Props.{props}
use Rattle.split_text.specs.declared.site.SplitJob.{SplitJob}
use Rattle.remote_resize.specs.declared.starter.Starter.{Starter}
use Rattle.remote_resize.specs.declared.begin_at.BeginAt.{BeginAt}
use Rattle.remote_resize.specs.declared.begin_at.BeginAt.TheVariants.{Lock, Header, Read, Take, UnlockChanged, UnlockFull, UnlockSpent, Birth, ChildHeader, ChildLock, Bucket, Link, Begin, Open, Begun, Changed, Locked, Spent, FullWords}

-- the table is not as deep as may be, and a node is tried
abbrev pub IsTried : SplitJob → Starter → Type 0
IsTried j s = (s.node < j.geometry.nodes) × (j.depth < j.geometry.max_depth)

-- .. and the child is below it
abbrev pub HasChild : SplitJob → Starter → Type 0
HasChild j s = (s.child < 2 ^ 40) × (j.depth < j.geometry.max_depth)

-- .. and so many bucket headers are left from the present one on
abbrev pub HasBuckets : SplitJob → Starter → ℕ → Type 0
HasBuckets j s n = HasChild j s × (s.index + n ≤ 2 * j.geometry.groups)

abbrev pub BeginFits : SplitJob → Starter → BeginAt → Type 0
BeginFits j s Lock = Unit {0}
BeginFits j s Header = Unit {0}
BeginFits j s Read = IsTried j s
BeginFits j s Take = IsTried j s × (1 ≤ s.left) × (s.next < 2 ^ 40)
BeginFits j s UnlockChanged = Unit {0}
BeginFits j s UnlockFull = Unit {0}
BeginFits j s UnlockSpent = Unit {0}
BeginFits j s Birth = HasChild j s
BeginFits j s ChildHeader = HasChild j s
BeginFits j s ChildLock = HasChild j s
BeginFits j s Bucket = HasBuckets j s (s.after + 1)
BeginFits j s Link = HasChild j s
BeginFits j s Begin = HasBuckets j s (s.after + 1)
BeginFits j s Open = HasChild j s
BeginFits j s Begun = HasChild j s
BeginFits j s Changed = Unit {0}
BeginFits j s Locked = Unit {0}
BeginFits j s Spent = Unit {0}
BeginFits j s FullWords = Unit {0}

pub BeginFits-prop : (j : SplitJob) (s : Starter) (at : BeginAt) → IsProp (BeginFits j s at)
BeginFits-prop j s Lock = Prim.hlevel props
BeginFits-prop j s Header = Prim.hlevel props
BeginFits-prop j s Read = Prim.hlevel props
BeginFits-prop j s Take = Prim.hlevel props
BeginFits-prop j s UnlockChanged = Prim.hlevel props
BeginFits-prop j s UnlockFull = Prim.hlevel props
BeginFits-prop j s UnlockSpent = Prim.hlevel props
BeginFits-prop j s Birth = Prim.hlevel props
BeginFits-prop j s ChildHeader = Prim.hlevel props
BeginFits-prop j s ChildLock = Prim.hlevel props
BeginFits-prop j s Bucket = Prim.hlevel props
BeginFits-prop j s Link = Prim.hlevel props
BeginFits-prop j s Begin = Prim.hlevel props
BeginFits-prop j s Open = Prim.hlevel props
BeginFits-prop j s Begun = Prim.hlevel props
BeginFits-prop j s Changed = Prim.hlevel props
BeginFits-prop j s Locked = Prim.hlevel props
BeginFits-prop j s Spent = Prim.hlevel props
BeginFits-prop j s FullWords = Prim.hlevel props
