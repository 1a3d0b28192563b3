-- What is known of the operation that is under way.
use Rattle.std.specs.Prelude.{ℕ, ◌≤◌, IsSome}
use Rattle.std.proofs.Props.{props}
use Rattle.verbs.specs.Programs.{Prog, ret, ask, next_act, Outcomes}
use Rattle.scan_pass.specs.Rest.{pass_rest}
use Rattle.op_delete.specs.AtFits.{AtFits as DeleteFits, AtFits-prop as DeleteFits-prop}
use Rattle.op_update.specs.AtFits.{AtFits as UpdateFits, AtFits-prop as UpdateFits-prop}
use Rattle.op_insert.specs.AtFits.{AtFits as InsertFits, AtFits-prop as InsertFits-prop}
use Rattle.op_insert.specs.declared.end.InsertOutcome.{InsertOutcome}
use Rattle.op_insert.specs.declared.end.InsertOutcome.TheVariants as inserted
use Rattle.op_insert.specs.Rest.{at_rest as insert_at}
use Rattle.split_text.specs.declared.resized.ResizeOutcome.{ResizeOutcome}
use Rattle.split_text.specs.declared.resized.ResizeOutcome.TheVariants as split
use Rattle.remote_resize.specs.ResizeOpRest.{resize_rest}
use Rattle.call_machine.specs.declared.task.Task.{Task}
use Rattle.call_machine.specs.declared.machines.Machines.{Machines}
use Rattle.call_machine.specs.declared.at.At.{At}
use Rattle.call_machine.specs.declared.at.At.TheVariants as op
use Rattle.call_machine.specs.Spare.{EndsBy, NeedsNone, InsertDone, Spares, InsertSpares, Refuses, RoomDone, Answers, SplitDone, LeavesOne, SplitSpares}

-- where the call goes on after it, one swap more may be lost
abbrev pub HasSpare : Task → Machines → At → Type 0
HasSpare t m op.Search = Unit {0}
HasSpare t m (op.Delete a) = Unit {0}
HasSpare t m (op.Update a) = Unit {0}
HasSpare t m (op.Insert a) = Outcomes (InsertSpares t.left) (insert_at m.work a)
HasSpare t m op.Room = Outcomes SplitSpares (resize_rest m.split)
HasSpare t m op.Walk = 1 ≤ t.left
HasSpare t m op.Split = Outcomes SplitSpares (resize_rest m.split)
HasSpare t m op.Resume = Outcomes SplitSpares (resize_rest m.split)
HasSpare t m op.Full = Unit {0}

-- it has an act, or has ended with the answer of the call
abbrev pub Settled : Machines → At → Type 0
Settled m op.Search = Unit {0}
Settled m (op.Delete a) = Unit {0}
Settled m (op.Update a) = Unit {0}
Settled m (op.Insert a) = EndsBy InsertDone (insert_at m.work a)
Settled m op.Room = EndsBy RoomDone (resize_rest m.split)
Settled m op.Walk = IsSome (next_act (pass_rest m.work.pass))
Settled m op.Split = EndsBy SplitDone (resize_rest m.split)
Settled m op.Resume = EndsBy SplitDone (resize_rest m.split)
Settled m op.Full = Unit {0}

-- what the operation knows of its work area where it stands
abbrev pub Stands : Machines → At → Type 0
Stands m op.Search = Unit {0}
Stands m (op.Delete a) = DeleteFits m.work a
Stands m (op.Update a) = UpdateFits m.work a
Stands m (op.Insert a) = InsertFits m.work a
Stands m op.Room = Unit {0}
Stands m op.Walk = Unit {0}
Stands m op.Split = Unit {0}
Stands m op.Resume = Unit {0}
Stands m op.Full = Unit {0}

abbrev pub CallFits : Task → Machines → At → Type 0
CallFits t m o = Stands m o × HasSpare t m o × Settled m o

-- each of these is a proposition
Outcomes-prop : {A : Type 0} (P : A → Type 0) → ((a : A) → IsProp (P a)) → (p : Prog A) → IsProp (Outcomes P p)
Outcomes-prop P h (ret a) = h a
Outcomes-prop P h (ask act k) = λ x y i answer. Outcomes-prop P h (k answer) (x answer) (y answer) i

EndsBy-prop : {A : Type 0} (P : A → Type 0) → ((a : A) → IsProp (P a)) → (p : Prog A) → IsProp (EndsBy P p)
EndsBy-prop P h (ret a) = h a
EndsBy-prop P h (ask act k) = Prim.hlevel props

NeedsNone-prop : (o : InsertOutcome) → IsProp (NeedsNone o)
NeedsNone-prop (inserted.Inserted at) = Prim.hlevel props
NeedsNone-prop (inserted.Exists h) = Prim.hlevel props
NeedsNone-prop (inserted.NeedRoom p kept) = Prim.hlevel props
NeedsNone-prop inserted.Again = Prim.hlevel props
NeedsNone-prop (inserted.NoBlock next need) = Prim.hlevel props

Spares-prop : (tries lost : ℕ) (o : InsertOutcome) → IsProp (Spares tries lost o)
Spares-prop tries lost (inserted.Inserted at) = Prim.hlevel props
Spares-prop tries lost (inserted.Exists h) = Prim.hlevel props
Spares-prop tries lost (inserted.NeedRoom p kept) = Prim.hlevel props
Spares-prop tries lost inserted.Again = Prim.hlevel props
Spares-prop tries lost (inserted.NoBlock next need) = Prim.hlevel props

Refuses-prop : (o : ResizeOutcome) → IsProp (Refuses o)
Refuses-prop (split.Split t d) = Prim.hlevel props
Refuses-prop split.Changed = Prim.hlevel props
Refuses-prop split.Locked = Prim.hlevel props
Refuses-prop (split.Again ticket) = Prim.hlevel props
Refuses-prop (split.FullWords next need) = Prim.hlevel props

Answers-prop : (o : ResizeOutcome) → IsProp (Answers o)
Answers-prop (split.Split t d) = Prim.hlevel props
Answers-prop split.Changed = Prim.hlevel props
Answers-prop split.Locked = Prim.hlevel props
Answers-prop (split.Again ticket) = Prim.hlevel props
Answers-prop (split.FullWords next need) = Prim.hlevel props

LeavesOne-prop : (left : ℕ) (o : ResizeOutcome) → IsProp (LeavesOne left o)
LeavesOne-prop left (split.Split t d) = Prim.hlevel props
LeavesOne-prop left split.Changed = Prim.hlevel props
LeavesOne-prop left split.Locked = Prim.hlevel props
LeavesOne-prop left (split.Again ticket) = Prim.hlevel props
LeavesOne-prop left (split.FullWords next need) = Prim.hlevel props

HasSpare-prop : (t : Task) (m : Machines) (o : At) → IsProp (HasSpare t m o)
HasSpare-prop t m op.Search = Prim.hlevel props
HasSpare-prop t m (op.Delete a) = Prim.hlevel props
HasSpare-prop t m (op.Update a) = Prim.hlevel props
HasSpare-prop t m (op.Insert a) = Outcomes-prop (InsertSpares t.left) (λ e. Spares-prop t.left e.lost e.outcome) (insert_at m.work a)
HasSpare-prop t m op.Room = Outcomes-prop SplitSpares (λ e. LeavesOne-prop e.left e.outcome) (resize_rest m.split)
HasSpare-prop t m op.Walk = Prim.hlevel props
HasSpare-prop t m op.Split = Outcomes-prop SplitSpares (λ e. LeavesOne-prop e.left e.outcome) (resize_rest m.split)
HasSpare-prop t m op.Resume = Outcomes-prop SplitSpares (λ e. LeavesOne-prop e.left e.outcome) (resize_rest m.split)
HasSpare-prop t m op.Full = Prim.hlevel props

Settled-prop : (m : Machines) (o : At) → IsProp (Settled m o)
Settled-prop m op.Search = Prim.hlevel props
Settled-prop m (op.Delete a) = Prim.hlevel props
Settled-prop m (op.Update a) = Prim.hlevel props
Settled-prop m (op.Insert a) = EndsBy-prop InsertDone (λ e. NeedsNone-prop e.outcome) (insert_at m.work a)
Settled-prop m op.Room = EndsBy-prop RoomDone (λ e. Refuses-prop e.outcome) (resize_rest m.split)
Settled-prop m op.Walk = Prim.hlevel props
Settled-prop m op.Split = EndsBy-prop SplitDone (λ e. Answers-prop e.outcome) (resize_rest m.split)
Settled-prop m op.Resume = EndsBy-prop SplitDone (λ e. Answers-prop e.outcome) (resize_rest m.split)
Settled-prop m op.Full = Prim.hlevel props

Stands-prop : (m : Machines) (o : At) → IsProp (Stands m o)
Stands-prop m op.Search = Prim.hlevel props
Stands-prop m (op.Delete a) = DeleteFits-prop m.work a
Stands-prop m (op.Update a) = UpdateFits-prop m.work a
Stands-prop m (op.Insert a) = InsertFits-prop m.work a
Stands-prop m op.Room = Prim.hlevel props
Stands-prop m op.Walk = Prim.hlevel props
Stands-prop m op.Split = Prim.hlevel props
Stands-prop m op.Resume = Prim.hlevel props
Stands-prop m op.Full = Prim.hlevel props

pub CallFits-prop : (t : Task) (m : Machines) (o : At) → IsProp (CallFits t m o)
CallFits-prop t m o = λ x y i. (Stands-prop m o x.0 y.0 i, HasSpare-prop t m o x.1 y.1 i, Settled-prop m o x.2 y.2 i)
