-- By what ends of an operation a call goes on, and that a swap more may be lost then.
use Rattle.std.specs.Prelude.{ℕ, ◌≤◌, ◌<◌}
use Rattle.verbs.specs.Programs.{Prog, ret, ask}
use Rattle.op_insert.specs.declared.end.InsertEnd.{InsertEnd}
use Rattle.op_insert.specs.declared.end.InsertOutcome.{InsertOutcome}
use Rattle.op_insert.specs.declared.end.InsertOutcome.TheVariants as inserted
use Rattle.split_text.specs.declared.resized.ResizeEnd.{ResizeEnd}
use Rattle.split_text.specs.declared.resized.ResizeOutcome.{ResizeOutcome}
use Rattle.split_text.specs.declared.resized.ResizeOutcome.TheVariants as split

-- a program that has ended has done so in this way
abbrev pub EndsBy : {A : Type 0} → (A → Type 0) → Prog A → Type 0
EndsBy P (ret a) = P a
EndsBy P (ask act k) = Unit {0}

-- no room is needed
abbrev pub NeedsNone : InsertOutcome → Type 0
NeedsNone (inserted.Inserted at) = Unit {0}
NeedsNone (inserted.Exists h) = Unit {0}
NeedsNone (inserted.NeedRoom p kept) = ⊥
NeedsNone inserted.Again = Unit {0}
NeedsNone (inserted.NoBlock next need) = Unit {0}

abbrev pub InsertDone : InsertEnd → Type 0
InsertDone e = NeedsNone e.outcome

-- an insert that needs room has lost fewer swaps than it might
abbrev pub Spares : ℕ → ℕ → InsertOutcome → Type 0
Spares tries lost (inserted.Inserted at) = Unit {0}
Spares tries lost (inserted.Exists h) = Unit {0}
Spares tries lost (inserted.NeedRoom p kept) = lost < tries
Spares tries lost inserted.Again = Unit {0}
Spares tries lost (inserted.NoBlock next need) = Unit {0}

abbrev pub InsertSpares : ℕ → InsertEnd → Type 0
InsertSpares tries e = Spares tries e.lost e.outcome

-- the call answers after a split of an insert
abbrev pub Refuses : ResizeOutcome → Type 0
Refuses (split.Split t d) = ⊥
Refuses split.Changed = ⊥
Refuses split.Locked = ⊥
Refuses (split.Again ticket) = Unit {0}
Refuses (split.FullWords next need) = Unit {0}

abbrev pub RoomDone : ResizeEnd → Type 0
RoomDone e = Refuses e.outcome

-- .. and after one of a resize
abbrev pub Answers : ResizeOutcome → Type 0
Answers (split.Split t d) = Unit {0}
Answers split.Changed = ⊥
Answers split.Locked = ⊥
Answers (split.Again ticket) = Unit {0}
Answers (split.FullWords next need) = Unit {0}

abbrev pub SplitDone : ResizeEnd → Type 0
SplitDone e = Answers e.outcome

-- a split after which a call may go on may lose one more
abbrev pub LeavesOne : ℕ → ResizeOutcome → Type 0
LeavesOne left (split.Split t d) = 1 ≤ left
LeavesOne left split.Changed = 1 ≤ left
LeavesOne left split.Locked = 1 ≤ left
LeavesOne left (split.Again ticket) = Unit {0}
LeavesOne left (split.FullWords next need) = Unit {0}

abbrev pub SplitSpares : ResizeEnd → Type 0
SplitSpares e = LeavesOne e.left e.outcome
