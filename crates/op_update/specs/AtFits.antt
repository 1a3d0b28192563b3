-- What is known of each place where an update stands.
use Rattle.std.specs.Prelude.{IsSome, IsTrue}
use Rattle.std.proofs.Props.{props}
use Rattle.verbs.specs.Programs.{next_act, outcome_of}
use Rattle.scan_pass.specs.Ends.{is_held}
use Rattle.scan_pass.specs.Rest.{pass_rest}
use Rattle.block_taking.specs.Rest.{take_rest}
use Rattle.work_area.specs.declared.work.Work.{Work}
use Rattle.op_update.specs.declared.at.At.{At}
use Rattle.op_update.specs.declared.at.At.TheVariants.{Looking, Taking, Settle, Replace, Updated, Missing, Again, NoBlock}

abbrev pub AtFits : Work → At → Type 0
AtFits w Looking = IsSome (next_act (pass_rest w.pass))
AtFits w Taking = IsSome (next_act (take_rest w.take)) × IsTrue (is_held w.pass.at)
AtFits w Settle = IsTrue (is_held w.pass.at)
AtFits w Replace = IsTrue (is_held w.pass.at)
AtFits w Updated = IsTrue (is_held w.pass.at)
AtFits w Missing = Unit {0}
AtFits w Again = Unit {0}
AtFits w NoBlock = IsSome (outcome_of (take_rest w.take))

pub AtFits-prop : (w : Work) (at : At) → IsProp (AtFits w at)
AtFits-prop w Looking = Prim.hlevel props
AtFits-prop w Taking = Prim.hlevel props
AtFits-prop w Settle = Prim.hlevel props
AtFits-prop w Replace = Prim.hlevel props
AtFits-prop w Updated = Prim.hlevel props
AtFits-prop w Missing = Prim.hlevel props
AtFits-prop w Again = Prim.hlevel props
AtFits-prop w NoBlock = Prim.hlevel props
