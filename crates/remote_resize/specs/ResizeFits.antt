-- What is known of each place where a split stands.
use Rattle.std.specs.Prelude.{ℕ, ◌+◌, ◌*◌, ◌≤◌, ◌^◌, IsSome, IsTrue, Bool, true, false}
use Rattle.std.proofs.Props.{props}
use Rattle.verbs.specs.Programs.{next_act}
use Rattle.directory.specs.Rest.{name_rest}
use Rattle.remote_resize.specs.declared.work.Work.{Work}
use Rattle.remote_resize.specs.declared.begin_at.BeginAt.{BeginAt}
use Rattle.remote_resize.specs.declared.begin_at.BeginAt.TheVariants as begins
use Rattle.remote_resize.specs.declared.resize_at.ResizeAt.{ResizeAt}
use Rattle.remote_resize.specs.declared.resize_at.ResizeAt.TheVariants.{Beginning, NotBegun, Moving, Clear, Finish, Close, Naming, RipenBucket, Ripen, UnlockTable, UnlockChild, Split, HeldUp}
use Rattle.remote_resize.specs.BeginRest.{begin_rest}
use Rattle.remote_resize.specs.MoveRest.{move_rest}

-- the first half has ended without a split that has begun
abbrev pub has_failed : BeginAt → Bool
has_failed begins.Changed = true
has_failed begins.Locked = true
has_failed begins.Spent = true
has_failed begins.FullWords = true
has_failed _ = false

-- so many slots are left from the present one on
abbrev pub HasSlots : Work → ℕ → Type 0
HasSlots w n = w.slot + n ≤ 2 ^ 32

-- so many bucket headers are left from the present one on
abbrev pub HasMains : Work → ℕ → Type 0
HasMains w n = w.index + n ≤ 2 * w.geometry.groups

abbrev pub ResizeFits : Work → ResizeAt → Type 0
ResizeFits w Beginning = IsSome (next_act (begin_rest w.begin))
ResizeFits w NotBegun = IsTrue (has_failed w.begin.at)
ResizeFits w Moving = HasSlots w (w.more + 1) × IsSome (next_act (move_rest w.mover))
ResizeFits w Clear = HasSlots w (w.more + 1)
ResizeFits w Finish = Unit {0}
ResizeFits w Close = HasMains w (w.after + 1)
ResizeFits w Naming = IsSome (next_act (name_rest w.name))
ResizeFits w RipenBucket = HasMains w (w.after + 1)
ResizeFits w Ripen = Unit {0}
ResizeFits w UnlockTable = Unit {0}
ResizeFits w UnlockChild = Unit {0}
ResizeFits w Split = Unit {0}
ResizeFits w HeldUp = HasSlots w 1

pub ResizeFits-prop : (w : Work) (at : ResizeAt) → IsProp (ResizeFits w at)
ResizeFits-prop w Beginning = Prim.hlevel props
ResizeFits-prop w NotBegun = Prim.hlevel props
ResizeFits-prop w Moving = Prim.hlevel props
ResizeFits-prop w Clear = Prim.hlevel props
ResizeFits-prop w Finish = Prim.hlevel props
ResizeFits-prop w Close = Prim.hlevel props
ResizeFits-prop w Naming = Prim.hlevel props
ResizeFits-prop w RipenBucket = Prim.hlevel props
ResizeFits-prop w Ripen = Prim.hlevel props
ResizeFits-prop w UnlockTable = Prim.hlevel props
ResizeFits-prop w UnlockChild = Prim.hlevel props
ResizeFits-prop w Split = Prim.hlevel props
ResizeFits-prop w HeldUp = Prim.hlevel props
