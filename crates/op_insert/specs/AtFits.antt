-- What is known of each place where an insert stands.
use Rattle.std.specs.Prelude.{◌≡◌, ◌+◌, ◌*◌, ◌≤◌, ◌<◌, ◌^◌, length, IsSome, IsTrue}
use Rattle.std.proofs.Props.{props}
use Rattle.verbs.specs.Programs.{next_act}
use Rattle.scan_pass.specs.Ends.{is_held}
use Rattle.scan_pass.specs.Rest.{pass_rest}
use Rattle.block_taking.specs.Rest.{take_rest}
use Rattle.work_area.specs.declared.work.Work.{Work}
use Rattle.op_insert.specs.declared.at.At.{At}
use Rattle.op_insert.specs.declared.at.At.TheVariants.{Look, ParentHeader, Begin, Open, ParentSlot, ParentBlock, ParentHash, Take, Place, Sweep, WithdrawHeld, WithdrawGone, WithdrawSpent, Commit, Lost, Left, Inserted, Exists, NeedRoom, Again, NoBlock, Out}
use Rattle.op_insert.specs.Looking.{IsClear}
use Rattle.op_insert.specs.Text.{places_of}
use Rattle.op_insert.specs.Rest.{inserting}

-- the look was clear, and the parent is asked
abbrev pub AsksParent : Work → Type 0
AsksParent w = IsClear w.pass.at × (w.numbers.parent < 2 ^ 46)

-- .. of a candidate
abbrev pub HasChosen : Work → Type 0
HasChosen w = IsClear w.pass.at × (w.numbers.parent < 2 ^ 46) × (w.numbers.index < length (places_of (inserting w))) × (w.numbers.index < 28)

abbrev pub PartFits : Work → At → Type 0
PartFits w Look = IsSome (next_act (pass_rest w.pass))
PartFits w ParentHeader = AsksParent w
PartFits w Begin = AsksParent w × (w.numbers.bucket + w.numbers.after + 1 ≡ 2 * w.job.geometry.groups) × (w.numbers.bucket < 2 * 64)
PartFits w Open = AsksParent w
PartFits w ParentSlot = HasChosen w
PartFits w ParentBlock = HasChosen w × (w.words.len + w.numbers.after + 1 ≤ 137) × (w.numbers.next + w.numbers.after + 1 < 2 ^ 50)
PartFits w ParentHash = HasChosen w
PartFits w Take = IsSome (next_act (take_rest w.take))
PartFits w Place = Unit {0}
PartFits w Sweep = IsSome (next_act (pass_rest w.pass))
PartFits w WithdrawHeld = IsTrue (is_held w.pass.at)
PartFits w WithdrawGone = Unit {0}
PartFits w WithdrawSpent = Unit {0}
PartFits w Commit = Unit {0}
PartFits w Lost = Unit {0}
PartFits w Left = Unit {0}
PartFits w Inserted = ⊥
PartFits w Exists = IsTrue (is_held w.pass.at)
PartFits w NeedRoom = IsClear w.pass.at
PartFits w Again = Unit {0}
PartFits w NoBlock = Unit {0}
PartFits w Out = ⊥

-- a machine rests where an act is left, or where the insert has ended: no part has ended to start again
abbrev pub AtFits : Work → At → Type 0
AtFits w Lost = ⊥
AtFits w Left = ⊥
AtFits w Inserted = Unit {0}
AtFits w Out = Unit {0}
AtFits w at = PartFits w at

pub AtFits-prop : (w : Work) (at : At) → IsProp (AtFits w at)
AtFits-prop w Look = Prim.hlevel props
AtFits-prop w ParentHeader = Prim.hlevel props
AtFits-prop w Begin = Prim.hlevel props
AtFits-prop w Open = Prim.hlevel props
AtFits-prop w ParentSlot = Prim.hlevel props
AtFits-prop w ParentBlock = Prim.hlevel props
AtFits-prop w ParentHash = Prim.hlevel props
AtFits-prop w Take = Prim.hlevel props
AtFits-prop w Place = Prim.hlevel props
AtFits-prop w Sweep = Prim.hlevel props
AtFits-prop w WithdrawHeld = Prim.hlevel props
AtFits-prop w WithdrawGone = Prim.hlevel props
AtFits-prop w WithdrawSpent = Prim.hlevel props
AtFits-prop w Commit = Prim.hlevel props
AtFits-prop w Lost = Prim.hlevel props
AtFits-prop w Left = Prim.hlevel props
AtFits-prop w Inserted = Prim.hlevel props
AtFits-prop w Exists = Prim.hlevel props
AtFits-prop w NeedRoom = Prim.hlevel props
AtFits-prop w Again = Prim.hlevel props
AtFits-prop w NoBlock = Prim.hlevel props
AtFits-prop w Out = Prim.hlevel props
