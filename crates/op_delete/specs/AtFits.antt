-- What is known of each place where a delete stands.
use Rattle.std.specs.Prelude.{◌≤◌, IsSome, IsTrue}
use Rattle.std.proofs.Props.{props}
use Rattle.verbs.specs.Programs.{next_act}
use Rattle.scan_pass.specs.Ends.{is_held}
use Rattle.scan_pass.specs.Rest.{pass_rest}
use Rattle.work_area.specs.declared.work.Work.{Work}
use Rattle.op_delete.specs.declared.at.At.{At}
use Rattle.op_delete.specs.declared.at.At.TheVariants.{Looking, Settle, Remove, Deleted, Missing, Again}

-- while it goes on a swap may still be lost
abbrev pub AtFits : Work → At → Type 0
AtFits w Looking = IsSome (next_act (pass_rest w.pass)) × (1 ≤ w.removal.left)
AtFits w Settle = IsTrue (is_held w.pass.at) × (1 ≤ w.removal.left)
AtFits w Remove = IsTrue (is_held w.pass.at) × (1 ≤ w.removal.left)
AtFits w Deleted = IsTrue (is_held w.pass.at)
AtFits w Missing = Unit {0}
AtFits w Again = Unit {0}

pub AtFits-prop : (w : Work) (at : At) → IsProp (AtFits w at)
AtFits-prop w Looking = Prim.hlevel props
AtFits-prop w Settle = Prim.hlevel props
AtFits-prop w Remove = Prim.hlevel props
AtFits-prop w Deleted = Prim.hlevel props
AtFits-prop w Missing = Prim.hlevel props
AtFits-prop w Again = Prim.hlevel props
